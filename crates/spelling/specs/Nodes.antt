-- Refusal 4 and the nodes of a line: what must fit, and how each operator is spelled out in the kinds of the search.
use Rattle.std.specs.Prelude.{Bool, true, false, cond, ◌&&◌, ◌||◌, List, [], ◌∷◌, ℕ, ◌+◌, ◌-◌, ◌^◌, ◌%◌, ltb, leb, eqb}
use Rattle.problem.specs.declared.layout.Node.{Node}
use Rattle.spelling.specs.declared.line.Operand.{Operand}
use Rattle.lines.specs.Words.{Word, sort, input, zeros, one, ones, const, constd, consth, inv, conj, disj, xor, add, sub, mul, sll, srl, sra, eq, neq, ult, slt, ite, concat, slice, uext, sext, constraint, other}
use Rattle.lines.specs.Format.{Constant}

-- a constant's value, two's complement after a minus sign
unfoldable pub constant_value : ℕ → Constant → ℕ
constant_value w c = cond c.minus ((2 ^ w - c.number) % 2 ^ w) c.number

-- 4 "sorts or widths that don't fit or a value too wide", of a line of width w, its operands' widths wa, wb, wc, its numbers p, q and
-- its constant k
unfoldable pub fits : Word → ℕ → ℕ → ℕ → ℕ → ℕ → ℕ → Constant → Bool
fits sort w wa wb wc p q k = leb 1 p && leb p 64
fits input w wa wb wc p q k = true
fits zeros w wa wb wc p q k = true
fits one w wa wb wc p q k = true
fits ones w wa wb wc p q k = true
fits const w wa wb wc p q k = eqb k.digits w
fits constd w wa wb wc p q k = cond k.minus (leb k.number (2 ^ (w - 1))) (ltb k.number (2 ^ w))
fits consth w wa wb wc p q k = ltb k.number (2 ^ w)
fits inv w wa wb wc p q k = eqb wa w
fits conj w wa wb wc p q k = eqb wa w && eqb wb w
fits disj w wa wb wc p q k = eqb wa w && eqb wb w
fits xor w wa wb wc p q k = eqb wa w && eqb wb w
fits add w wa wb wc p q k = eqb wa w && eqb wb w
fits sub w wa wb wc p q k = eqb wa w && eqb wb w
fits mul w wa wb wc p q k = eqb wa w && eqb wb w
fits sll w wa wb wc p q k = eqb wa w && eqb wb w
fits srl w wa wb wc p q k = eqb wa w && eqb wb w
fits sra w wa wb wc p q k = eqb wa w && eqb wb w
fits eq w wa wb wc p q k = eqb wa wb && eqb w 1
fits neq w wa wb wc p q k = eqb wa wb && eqb w 1
fits ult w wa wb wc p q k = eqb wa wb && eqb w 1
fits slt w wa wb wc p q k = eqb wa wb && eqb w 1
fits ite w wa wb wc p q k = eqb wa 1 && eqb wb w && eqb wc w
fits concat w wa wb wc p q k = eqb (wa + wb) w
fits slice w wa wb wc p q k = leb q p && ltb p wa && eqb (p - q + 1) w
fits uext w wa wb wc p q k = eqb (wa + p) w
fits sext w wa wb wc p q k = eqb (wa + p) w
fits constraint w wa wb wc p q k = eqb wa 1
fits other w wa wb wc p q k = true

-- ---- nodes

-- a node with operands; a constant; a variable whose bits are all free
abbrev pub operator : ℕ → ℕ → ℕ → ℕ → ℕ → Node
operator kind w a b c = record { kind = kind; width = w; a = a; b = b; c = c; lo = 0; hi = 0 }

abbrev pub constant_node : ℕ → ℕ → Node
constant_node w v = record { kind = 1; width = w; a = 0; b = 0; c = 0; lo = v; hi = v }

abbrev pub variable_node : ℕ → Node
variable_node w = record { kind = 0; width = w; a = 0; b = 0; c = 0; lo = 0; hi = 2 ^ w - 1 }

abbrev pub invert : ℕ → ℕ → Node
invert w a = operator 2 w a 0 0

-- "by 0: none"
abbrev pub unless_zero : ℕ → List Node → List Node
unless_zero p ns = cond (eqb p 0) [] ns

-- the line's own nodes, of which the first has the id n; a, b, c are its operands' nodes and v is its constant's value. Kinds 14, 15, 16 are signed below,
-- arithmetic shift right and sign extension
unfoldable pub own : Word → ℕ → ℕ → ℕ → ℕ → ℕ → ℕ → ℕ → ℕ → List Node
own sort w n a b c p q v = []
own input w n a b c p q v = variable_node w ∷ []
own zeros w n a b c p q v = constant_node w 0 ∷ []
own one w n a b c p q v = constant_node w 1 ∷ []
own ones w n a b c p q v = constant_node w (2 ^ w - 1) ∷ []
own const w n a b c p q v = constant_node w v ∷ []
own constd w n a b c p q v = constant_node w v ∷ []
own consth w n a b c p q v = constant_node w v ∷ []
own inv w n a b c p q v = invert w a ∷ []
own conj w n a b c p q v = operator 3 w a b 0 ∷ []
own disj w n a b c p q v = invert w a ∷ invert w b ∷ operator 3 w n (n + 1) 0 ∷ invert w (n + 2) ∷ []
own xor w n a b c p q v = operator 4 w a b 0 ∷ []
own add w n a b c p q v = operator 5 w a b 0 ∷ []
own sub w n a b c p q v = invert w a ∷ operator 5 w n b 0 ∷ invert w (n + 1) ∷ []
own mul w n a b c p q v = operator 6 w a b 0 ∷ []
own sll w n a b c p q v = operator 7 w a b 0 ∷ []
own srl w n a b c p q v = operator 8 w a b 0 ∷ []
own sra w n a b c p q v = operator 15 w a b 0 ∷ []
own eq w n a b c p q v = operator 9 w a b 0 ∷ []
own neq w n a b c p q v = operator 9 w a b 0 ∷ invert w n ∷ []
own ult w n a b c p q v = operator 10 w a b 0 ∷ []
own slt w n a b c p q v = operator 14 w a b 0 ∷ []
own ite w n a b c p q v = operator 11 w a b c ∷ []
own concat w n a b c p q v = operator 12 w a b 0 ∷ []
own slice w n a b c p q v = operator 13 w a q 0 ∷ []
own uext w n a b c p q v = unless_zero p (constant_node p 0 ∷ operator 12 w n a 0 ∷ [])
own sext w n a b c p q v = unless_zero p (operator 16 w a 0 0 ∷ [])
own constraint w n a b c p q v = []
own other w n a b c p q v = []

-- ---- the nots in front of them

-- "first a not for each negative reference in operand order, none shared", from the id n on
unfoldable pub nots : List Operand → List Node
nots [] = []
nots (o ∷ os) = cond o.negative (invert o.width o.node ∷ nots os) (nots os)

-- the nodes that then are the operands
unfoldable pub placed : ℕ → List Operand → List ℕ
placed n [] = []
placed n (o ∷ os) = cond o.negative (n ∷ placed (n + 1) os) (o.node ∷ placed n os)

-- ---- roots

-- whether a node is one of them
unfoldable pub is_root : ℕ → List ℕ → Bool
is_root n [] = false
is_root n (r ∷ rs) = eqb r n || is_root n rs
