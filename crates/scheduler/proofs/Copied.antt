-- What `flows::setup` lends on: the first seventeen of a list, of which setup says what it says of the list.
use mathlib.Core.Path.{◌≡◌, sym, ap, ◌∙◌}
use mathlib.Core.List.{List, ◌++◌}
use mathlib.Core.Logic.{⊎_elim}
use Prim.Native.Nat.{ℕ, ◌≤◌, ◌<◌, min}
use native.Mathlib.Omega.{arith}
use lib.Dec.{ltb}
use lib.ListN.{length, take, length-take}
use lib.Seq.{take-append-le, take_all, length-take-le}
use Rattle.drr.specs.declared.FlowRecord.{FlowRecord}
use Rattle.drr.specs.declared.Terms.{Terms}
use Rattle.drr.specs.declared.Table.{Table}
use Rattle.drr.specs.Limits.{most_flows, most_overhead}
use Rattle.drr.specs.State.{fresh_state}
use Rattle.drr.specs.Answers.{Answer, Reply, reply}
use Rattle.drr.specs.Setup.{setup_reply}
use Rattle.drr.proofs.Bools.{below?, dec}
use Rattle.scheduler.proofs.Setups.{Gives, gives_over, too_many}

-- what setup gives of a list and the terms
abbrev pub reply_on : Terms → List FlowRecord → Reply
reply_on t xs = setup_reply xs t

-- ---- the first seventeen stand in the array, and setup says of them what it says of the list
gives_same : (xs ys : List FlowRecord) (t : Terms) {a : Answer} {T : Table} → Gives xs t a T → Gives ys t a T → reply_on t xs ≡ reply_on t ys
gives_same xs ys t x y = λ i. reply ((sym x.answers ∙ y.answers) i) (fresh_state ((sym x.makes ∙ y.makes) i))

long_same : (xs ys : List FlowRecord) (t : Terms) → most_flows < length xs → most_flows < length ys → reply_on t xs ≡ reply_on t ys
long_same xs ys t more more' = ⊎_elim
    (λ over. gives_same xs ys t (gives_over xs t over) (gives_over ys t over))
    (λ fits. gives_same xs ys t (too_many xs t fits more) (too_many ys t fits more'))
    (dec (ltb most_overhead t.overhead))

-- what is copied to the front of an array
pub copied_front : (i : ℕ) (ys zs xs : List FlowRecord) → ys ≡ take i xs → i ≤ length xs → take i (ys ++ zs) ≡ take i xs
copied_front i ys zs xs is inside =
    rw is (take-append-le i (take i xs) zs (omega (arith, length-take-le i xs inside)) ∙ take_all i (take i xs) (omega (arith, length-take-le i xs inside)))

pub first_seventeen : (xs : List FlowRecord) (t : Terms) (i : ℕ) → i ≡ min (length xs) 17 → reply_on t (take i xs) ≡ reply_on t xs
first_seventeen xs t i is = ⊎_elim
    (λ more. long_same (take i xs) xs t (omega (arith, length-take i xs)) more)
    (λ few. ap (reply_on t) (take_all i xs (omega arith)))
    (below? most_flows (length xs))
