-- What code keeps between two lines, tied to the definition's state, and what taking a line does to it.
use Rattle.std.specs.Prelude.{◌≡◌, Bool, true, false, cond, ◌||◌, List, [], ◌∷◌, ◌++◌, ℕ, ◌+◌, ◌*◌, ◌≤◌, ◌<◌, ltb, leb, eqb, length, get_or, take, set, Result, Ok, Err}
use Rattle.std.proofs.lemmas.List.Edits.{sets}
use Rattle.lines.specs.declared.fault.Fault.{Fault}
use Rattle.lines.specs.declared.fault.Fault.TheVariants.{Id, Width, Room}
use Rattle.lines.specs.declared.table.Makes.{Makes}
use Rattle.lines.specs.declared.table.Makes.TheVariants.{Sort, Input, Value, Root}
use Rattle.spelling.specs.declared.line.Operands.{Operands}
use Rattle.spelling.specs.declared.line.Line.{Line}
use Rattle.btor2.specs.declared.take.Counts.{Counts}
use Rattle.lines.specs.Faults.{fault_number}
use Rattle.lines.specs.Lines.{tokens}
use Rattle.lines.specs.Words.{shape, word_of}
use Rattle.btor2.specs.Conversion.{State, line_fault, after_line}
use Rattle.spelling.specs.Nodes.{is_root}
use Rattle.spelling.specs.Bytes.{all_nodes}
use Rattle.spelling.specs.inner.Spelled.{count_read, new_read, standing_for, fits_read}
use Rattle.btor2.specs.inner.Kept.{Rising, Named}
use Rattle.btor2.specs.laws.Reached.{Reached}

-- ---- tests

abbrev pub sort_missing : Makes → ℕ → Bool
sort_missing Sort w = false
sort_missing Input w = eqb w 0
sort_missing Value w = eqb w 0
sort_missing Root w = false

abbrev pub operand_missing : Operands → Bool
operand_missing o = (leb 1024 o.a.node || leb 1024 o.b.node) || leb 1024 o.c.node

unfoldable pub unknown_read : Line → ℕ → Bool
unknown_read x last = (leb x.id last || sort_missing (shape (word_of x.word)).makes x.width) || operand_missing x.ops

unfoldable pub overfull : ℕ → ℕ → ℕ → Bool
overfull room nodes roots = (ltb 1024 nodes || ltb 256 roots) || ltb room (9 + 24 * nodes + 2 * roots)

-- ---- what a line adds

abbrev pub roots_after : Makes → List ℕ → ℕ → ℕ → ℕ
roots_after Sort rs n r = n
roots_after Input rs n r = n
roots_after Value rs n r = n
roots_after Root rs n r = cond (is_root r rs) n (n + 1)

-- whether a line's id is kept: one that makes n nodes always, another name while fewer than 1,024 ids are
abbrev pub adds_name : Makes → ℕ → ℕ → Bool
adds_name Sort n names = false
adds_name Input n names = ltb 0 n || ltb names 1024
adds_name Value n names = ltb 0 n || ltb names 1024
adds_name Root n names = false

pub data NamedIf : Bool → List ℕ → List ℕ → ℕ → ℕ → ℕ → List ℕ → List ℕ → ℕ → Type 0 where
  kept : {ids places : List ℕ} {names id node : ℕ} → NamedIf false ids places names id node ids places names
  added : {ids places : List ℕ} {names id node : ℕ}
      → NamedIf true ids places names id node (set ids names id) (set places names node) (names + 1)

pub record RootIf (n m node : ℕ) (rooted after : List ℕ) : Type 0 where
  pub added : n < m → after ≡ set rooted n node
  pub kept : m ≤ n → after ≡ rooted

-- the node that a line stands for, and how many roots there are with it
abbrev pub standing : Line → Counts → ℕ
standing x n = standing_for x n.nodes (count_read x)

abbrev pub roots_with : Line → Counts → List ℕ → ℕ
roots_with x n rooted = roots_after (shape (word_of x.word)).makes (take n.roots rooted) n.roots (standing x n)

pub data Placed (x : Line) (n : Counts) (room : ℕ) (bytes ids places rooted bytes' ids' places' rooted' : List ℕ) : Result Counts Fault → Type 0 where
  full : overfull room (n.nodes + count_read x) (roots_with x n rooted) ≡ true → Placed x n room bytes ids places rooted bytes' ids' places' rooted' (Err Room)
  put :
      {names : ℕ}
      → overfull room (n.nodes + count_read x) (roots_with x n rooted) ≡ false
      → (x.width ≤ 64 → bytes' ≡ sets bytes (24 * n.nodes) (all_nodes (new_read x n.nodes)))
      → NamedIf (adds_name (shape (word_of x.word)).makes (count_read x) n.names) ids places n.names x.id (standing x n) ids' places' names
      → RootIf n.roots (roots_with x n rooted) (standing x n) rooted rooted'
      → Placed x n room bytes ids places rooted bytes' ids' places' rooted'
      (Ok (record { last = x.id; nodes = n.nodes + count_read x; roots = roots_with x n rooted; names = names }))

-- a line that is read: refusals 3 and 4, then what it adds
pub data Settled (x : Line) (n : Counts) (room : ℕ) (bytes ids places rooted bytes' ids' places' rooted' : List ℕ) : Result Counts Fault → Type 0 where
  unknown : unknown_read x n.last ≡ true → Settled x n room bytes ids places rooted bytes' ids' places' rooted' (Err Id)
  misfits :
      unknown_read x n.last ≡ false
      → fits_read x ≡ false
      → Settled x n room bytes ids places rooted bytes' ids' places' rooted' (Err Width)
  placed :
      {t : Result Counts Fault}
      → unknown_read x n.last ≡ false
      → fits_read x ≡ true
      → Placed x n room bytes ids places rooted bytes' ids' places' rooted' t
      → Settled x n room bytes ids places rooted bytes' ids' places' rooted' t

-- ---- between two lines

-- the arrays' lengths
pub record Lengths (bytes ids places rooted : List ℕ) : Type 0 where
  pub bytes_long : length bytes ≡ 24576
  pub ids_long : length ids ≡ 2048
  pub places_long : length places ≡ 2048
  pub rooted_long : length rooted ≡ 256

-- no line has passed
abbrev pub nothing : Counts
nothing = record { last = 0; nodes = 0; roots = 0; names = 0 }

-- an answer, with the counts that are then kept
abbrev pub counted : {F : Type 0} → Result Unit F → Counts → Result Counts F
counted (Ok u) n = Ok n
counted (Err f) n = Err f

-- what holds of the arrays and counts by themselves
pub record Fits (n : Counts) (bytes ids places rooted : List ℕ) : Type 0 where
  pub bytes_long : length bytes ≡ 24576
  pub ids_long : length ids ≡ 2048
  pub places_long : length places ≡ 2048
  pub rooted_long : length rooted ≡ 256
  pub nodes_few : n.nodes ≤ 1024
  pub roots_few : n.roots ≤ 256
  pub names_few : n.names ≤ n.nodes + 1024
  pub rising : Rising ids n.names

-- and of the state after the lines ls
pub record Kept (room : ℕ) (σ : State) (ls : List (List ℕ)) (n : Counts) (bytes ids places rooted : List ℕ) : Type 0 where
  pub reached : Reached room ls σ
  pub last_is : n.last ≡ σ.last
  pub nodes_are : n.nodes ≡ length σ.nodes
  pub roots_are : n.roots ≡ length σ.roots
  pub written : take (24 * n.nodes) bytes ≡ all_nodes σ.nodes
  pub held : take n.roots rooted ≡ σ.roots
  pub named : Named σ ls n.names ids places
  pub under : (k : ℕ) → k < n.names → get_or ids k 0 ≤ n.last
  pub fits : Fits n bytes ids places rooted

-- a line l taken
pub data Stepped (room : ℕ) (σ : State) (ls : List (List ℕ)) (l bytes ids places rooted : List ℕ) : Result Counts Fault → Type 0 where
  next :
      {n : Counts}
      → line_fault room σ (tokens l) ≡ 0
      → Kept room (after_line σ (tokens l)) (ls ++ l ∷ []) n bytes ids places rooted
      → Stepped room σ ls l bytes ids places rooted (Ok n)
  fault :
      {f : Fault}
      → line_fault room σ (tokens l) ≡ fault_number f
      → Stepped room σ ls l bytes ids places rooted (Err f)
