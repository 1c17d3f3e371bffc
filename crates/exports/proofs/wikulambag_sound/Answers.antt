use Rattle.exports.proofs.wikulambag_sound.Goals as goal

pub returns : goal.returns
returns c = rw c.sound.ensures
