-- The text as a table: ids increase, and sorts and other names are unbounded in number, so code keeps no table of them and reads what an id
-- stands for off the line that has it.
use Rattle.std.specs.Prelude.{Bool, cond, not, ◌&&◌, ◌||◌, List, [], ◌∷◌, ℕ, ◌^◌, ltb, eqb}
use Rattle.texts.specs.Numbers.{value_in}
use Rattle.lines.specs.Lines.{Token, token, tokens}
use Rattle.lines.specs.Words.{number_of}
use Rattle.lines.specs.Format.{signed}

-- a line's own id
unfoldable pub id_of : List Token → ℕ
id_of ts = value_in 10 (token ts 0)

-- the line with an id; an empty one where there is none
unfoldable pub find_line : ℕ → List (List ℕ) → List ℕ
find_line id [] = []
find_line id (l ∷ ls) = cond (eqb (id_of (tokens l)) id) l (find_line id ls)

-- a number that 64 bits hold, 0 for another; a width that a sort may have, 0 for another
unfoldable pub small : ℕ → ℕ
small n = cond (ltb n (2 ^ 64)) n 0

unfoldable pub narrow : ℕ → ℕ
narrow w = cond (ltb w 65) w 0

-- the width that a sort's line tells
unfoldable pub width_told : List Token → ℕ
width_told ts = cond (eqb (number_of (token ts 1)) 0) (narrow (value_in 10 (token ts 3))) 0

-- another name: uext and sext have numbers 25 and 26
unfoldable pub is_alias : List Token → Bool
is_alias ts =
    ((eqb (number_of (token ts 1)) 25 || eqb (number_of (token ts 1)) 26) && eqb (value_in 10 (token ts 4)) 0) && not (signed (token ts 3))

-- the line of which a line is another name, 0 where it is none
unfoldable pub alias_of : List Token → ℕ
alias_of ts = cond (is_alias ts) (small (value_in 10 (token ts 3))) 0
