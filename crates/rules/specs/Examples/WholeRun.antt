-- "The program and one whole run": the run of document 01, byte for byte, by computation.
use Rattle.std.specs.Prelude.{◌≡◌, refl, List, [], ◌∷◌, ℕ}
use Rattle.rules.specs.Listing.{listing, text}

abbrev pub input : List ℕ
input =
    1 ∷ 2 ∷ 0 ∷ 0 ∷ 0 ∷ 0 ∷ 0 ∷ 0 ∷ 0 ∷ 0 ∷ 0 ∷ 0 ∷ 0 ∷ 0 ∷ 0 ∷ 0 ∷ 0
    ∷ 1 ∷ 0
    ∷ 2 ∷ 0
    ∷ 4 ∷ 0 ∷ 96 ∷ 0 ∷ 0 ∷ 0 ∷ 1 ∷ 1 ∷ 0 ∷ 6 ∷ 2 ∷ 0 ∷ 0 ∷ 0 ∷ 0
    ∷ 1 ∷ 1
    ∷ 2 ∷ 1
    ∷ 3 ∷ 1 ∷ 0 ∷ 100
    ∷ 5 ∷ 1
    ∷ 2 ∷ 0
    ∷ 5 ∷ 0
    ∷ []

pub whole_run : listing input ≡ text "open 1\n1 done - 0\n2 in - 0\n3 waits - 0\n4 done - 0\n5 in - 0\n6 done - 0\n7 done 0 1\n8 in - 0\n9 done - 0\nend 9\n"
whole_run = refl
