-- Words as they are written, in the place of lists of their bytes.
use Rattle.std.specs.Prelude.{ℕ, List, [] as none, ◌∷◌ as ◌then◌}
use Prim.Native.Char.{code}
use Prim.Native.String.{String, [], ◌∷◌}

-- the bytes of a text of ASCII characters
abbrev pub spelt : String → List ℕ
spelt [] = none
spelt (c ∷ s) = code c then spelt s
