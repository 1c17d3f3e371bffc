use Rattle.drrmake.proofs.main.Goals as goal

pub slice_bounds-file-end : goal.slice_bounds-file-end
slice_bounds-file-end c = (c.make_file-answer.ensures.whole _ c.in-Ok.is).0
