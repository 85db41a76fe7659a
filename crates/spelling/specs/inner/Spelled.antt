-- The keywords as code groups them: by what must fit and by how a line is spelled out in nodes. Laws say that these are the definitions of
-- Nodes, keyword by keyword.
use Rattle.std.specs.Prelude.{Bool, true, cond, ◌&&◌, List, [], ◌∷◌, ◌++◌, ℕ, ◌+◌, ◌-◌, ◌^◌, ltb, leb, eqb, length}
use Rattle.problem.specs.declared.layout.Node.{Node}
use Rattle.texts.specs.Numbers.{value_in}
use Rattle.spelling.specs.declared.forms.Rule.{Rule}
use Rattle.spelling.specs.declared.forms.Rule.TheVariants.{Free, Sort, Constant, One, Two, Compare, If, Concat, Slice, Extend, Bit}
use Rattle.spelling.specs.declared.forms.Form.{Form}
use Rattle.spelling.specs.declared.forms.Form.TheVariants as form
use Rattle.spelling.specs.declared.line.Operand.{Operand}
use Rattle.spelling.specs.declared.line.Operands.{Operands}
use Rattle.spelling.specs.declared.line.Line.{Line}
use Rattle.lines.specs.Lines.{Token}
use Rattle.lines.specs.Words.{Word, word_of, sort, input, zeros, one, ones, const, constd, consth, inv, conj, disj, xor, add, sub, mul, sll, srl, sra, eq, neq, ult, slt, ite, concat, slice, uext, sext, constraint, other}
use Rattle.lines.specs.Format.{signed, unsigned}
use Rattle.spelling.specs.Nodes.{operator, constant_node, variable_node, invert, unless_zero, nots}

-- ---- what must fit

unfoldable pub rule_of : Word → Rule
rule_of sort = Sort
rule_of input = Free
rule_of zeros = Free
rule_of one = Free
rule_of ones = Free
rule_of const = Constant
rule_of constd = Constant
rule_of consth = Constant
rule_of inv = One
rule_of conj = Two
rule_of disj = Two
rule_of xor = Two
rule_of add = Two
rule_of sub = Two
rule_of mul = Two
rule_of sll = Two
rule_of srl = Two
rule_of sra = Two
rule_of eq = Compare
rule_of neq = Compare
rule_of ult = Compare
rule_of slt = Compare
rule_of ite = If
rule_of concat = Concat
rule_of slice = Slice
rule_of uext = Extend
rule_of sext = Extend
rule_of constraint = Bit
rule_of other = Free

-- by the line's width, its operands' widths, its numbers, and whether its constant fits
unfoldable pub rule_fits : Rule → ℕ → ℕ → ℕ → ℕ → ℕ → ℕ → Bool → Bool
rule_fits Free w wa wb wc p q k = true
rule_fits Sort w wa wb wc p q k = leb 1 p && leb p 64
rule_fits Constant w wa wb wc p q k = k
rule_fits One w wa wb wc p q k = eqb wa w
rule_fits Two w wa wb wc p q k = eqb wa w && eqb wb w
rule_fits Compare w wa wb wc p q k = eqb wa wb && eqb w 1
rule_fits If w wa wb wc p q k = eqb wa 1 && eqb wb w && eqb wc w
rule_fits Concat w wa wb wc p q k = eqb (wa + wb) w
rule_fits Slice w wa wb wc p q k = leb q p && ltb p wa && eqb (p - q + 1) w
rule_fits Extend w wa wb wc p q k = eqb (wa + p) w
rule_fits Bit w wa wb wc p q k = eqb wa 1

-- a number as far as widths go
unfoldable pub short : ℕ → ℕ
short n = cond (ltb n 128) n 128

-- the greatest number that fits w bits, by a constant's base and sign; and whether a constant fits
unfoldable pub most_of : ℕ → ℕ → Token → ℕ
most_of base w t = cond (eqb base 10 && signed t) (2 ^ (w - 1)) (2 ^ w - 1)

unfoldable pub constant_fits : ℕ → ℕ → Token → Bool
constant_fits base w t = cond (eqb base 2) (eqb (length t) w) (leb (value_in base (unsigned t)) (most_of base w t))

-- ---- nodes

unfoldable pub form_of : Word → Form
form_of sort = form.Nothing
form_of input = form.Variable
form_of zeros = form.Constant
form_of one = form.Constant
form_of ones = form.Constant
form_of const = form.Constant
form_of constd = form.Constant
form_of consth = form.Constant
form_of inv = form.Plain 2
form_of conj = form.Plain 3
form_of disj = form.Or
form_of xor = form.Plain 4
form_of add = form.Plain 5
form_of sub = form.Sub
form_of mul = form.Plain 6
form_of sll = form.Plain 7
form_of srl = form.Plain 8
form_of sra = form.Plain 15
form_of eq = form.Plain 9
form_of neq = form.Neq
form_of ult = form.Plain 10
form_of slt = form.Plain 14
form_of ite = form.Plain 11
form_of concat = form.Plain 12
form_of slice = form.Slice
form_of uext = form.Uext
form_of sext = form.Sext
form_of constraint = form.Nothing
form_of other = form.Nothing

-- or, sub, neq and uext, of which the first node has the id n
unfoldable pub or_nodes : ℕ → ℕ → ℕ → ℕ → List Node
or_nodes w n a b = invert w a ∷ invert w b ∷ operator 3 w n (n + 1) 0 ∷ invert w (n + 2) ∷ []

unfoldable pub sub_nodes : ℕ → ℕ → ℕ → ℕ → List Node
sub_nodes w n a b = invert w a ∷ operator 5 w n b 0 ∷ invert w (n + 1) ∷ []

unfoldable pub neq_nodes : ℕ → ℕ → ℕ → ℕ → List Node
neq_nodes w n a b = operator 9 w a b 0 ∷ invert w n ∷ []

unfoldable pub uext_nodes : ℕ → ℕ → ℕ → ℕ → List Node
uext_nodes w n a p = constant_node p 0 ∷ operator 12 w n a 0 ∷ []

unfoldable pub spelled_by : Form → ℕ → ℕ → ℕ → ℕ → ℕ → ℕ → ℕ → ℕ → List Node
spelled_by form.Nothing w n a b c p q v = []
spelled_by form.Variable w n a b c p q v = variable_node w ∷ []
spelled_by form.Constant w n a b c p q v = constant_node w v ∷ []
spelled_by (form.Plain kind) w n a b c p q v = operator kind w a b c ∷ []
spelled_by form.Slice w n a b c p q v = operator 13 w a q 0 ∷ []
spelled_by form.Or w n a b c p q v = or_nodes w n a b
spelled_by form.Sub w n a b c p q v = sub_nodes w n a b
spelled_by form.Neq w n a b c p q v = neq_nodes w n a b
spelled_by form.Uext w n a b c p q v = unless_zero p (uext_nodes w n a p)
spelled_by form.Sext w n a b c p q v = unless_zero p (operator 16 w a 0 0 ∷ [])

-- how many they are
unfoldable pub own_count : Form → ℕ → ℕ
own_count form.Nothing p = 0
own_count form.Variable p = 1
own_count form.Constant p = 1
own_count (form.Plain kind) p = 1
own_count form.Slice p = 1
own_count form.Or p = 4
own_count form.Sub p = 3
own_count form.Neq p = 2
own_count form.Uext p = cond (eqb p 0) 0 2
own_count form.Sext p = cond (eqb p 0) 0 1

-- ---- a line as code has read it

-- one where a bit is set; and the node that then is an operand
unfoldable pub one_if : Bool → ℕ
one_if b = cond b 1 0

unfoldable pub placed_at : Operand → ℕ → ℕ
placed_at o n = cond o.negative n o.node

abbrev pub three_of : Operands → List Operand
three_of o = o.a ∷ o.b ∷ o.c ∷ []

unfoldable pub nots_of : Operands → ℕ
nots_of o = one_if o.a.negative + one_if o.b.negative + one_if o.c.negative

-- how many nodes it makes
unfoldable pub count_read : Line → ℕ
count_read x = nots_of x.ops + own_count (form_of (word_of x.word)) x.first

-- all its nodes, of which the first has the id n
unfoldable pub new_read : Line → ℕ → List Node
new_read x n =
    nots (three_of x.ops)
    ++ spelled_by (form_of (word_of x.word)) x.width (n + nots_of x.ops)
    (placed_at x.ops.a n) (placed_at x.ops.b (n + one_if x.ops.a.negative)) (placed_at x.ops.c (n + one_if x.ops.a.negative + one_if x.ops.b.negative))
    x.first x.second x.literal.value

-- the node that its id stands for, where it makes so many
unfoldable pub standing_for : Line → ℕ → ℕ → ℕ
standing_for x n total = cond (eqb total 0) (placed_at x.ops.a n) (n + total - 1)

unfoldable pub fits_read : Line → Bool
fits_read x =
    rule_fits (rule_of (word_of x.word)) x.width x.ops.a.width x.ops.b.width x.ops.c.width x.first x.second x.literal.fits
