-- What code compares keywords by: a number that tells a short word.
use Rattle.std.specs.Prelude.{cond, List, [], ◌∷◌, ℕ, suc, ◌+◌, ◌*◌, eqb}

-- the bytes of a word, the first lowest, under a 1
unfoldable pub packed : List ℕ → ℕ
packed [] = 1
packed (b ∷ s) = b + 256 * packed s

-- where a number stands first in a list; the list's length where it does not
unfoldable pub position : ℕ → List ℕ → ℕ
position k [] = 0
position k (x ∷ xs) = cond (eqb x k) 0 (suc (position k xs))

-- the keywords' numbers, in the order of the list; 0 for the one that is too long
abbrev pub keys : List ℕ
keys =
    6248623987 ∷ 1599698136681 ∷ 6164735354 ∷ 23424623 ∷ 6230994543 ∷ 1599664451427 ∷ 391926292311907
    ∷ 396324338823011 ∷ 24407918 ∷ 23359073 ∷ 94831 ∷ 24276856 ∷ 23356513 ∷ 23229811
    ∷ 23885165 ∷ 23882867 ∷ 23884403 ∷ 23163507 ∷ 94565 ∷ 24208750 ∷ 24407157
    ∷ 24407155 ∷ 23426153 ∷ 409436605542243 ∷ 1534971178099 ∷ 6249014645 ∷ 6249014643 ∷ 0 ∷ []
