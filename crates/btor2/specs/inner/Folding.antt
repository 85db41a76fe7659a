-- What the fold over the lines answers.
use Rattle.std.specs.Prelude.{◌≡◌, List, ℕ, ◌*◌, ◌≤◌, length, take, Result, Ok, Err}
use Rattle.btor2.specs.declared.take.Counts.{Counts}
use Rattle.btor2.specs.declared.Refusal.{Refusal}
use Rattle.lines.specs.Faults.{fault_number}
use Rattle.lines.specs.Lines.{lines}
use Rattle.btor2.specs.Conversion.{State, start, size, converted, refused, convert_from}
use Rattle.spelling.specs.Bytes.{all_nodes}

-- the arrays hold what a state does
pub record Holds (room : ℕ) (σ : State) (bytes rooted : List ℕ) (n : Counts) : Type 0 where
  pub nodes_are : n.nodes ≡ length σ.nodes
  pub roots_are : n.roots ≡ length σ.roots
  pub written : take (24 * n.nodes) bytes ≡ all_nodes σ.nodes
  pub held : take n.roots rooted ≡ σ.roots
  pub nodes_few : n.nodes ≤ 1024
  pub roots_few : n.roots ≤ 256
  pub enough : 9 ≤ room → size σ ≤ room

pub data Ends (room : ℕ) (text bytes rooted : List ℕ) : Result Counts Refusal → Type 0 where
  done :
      {n : Counts} (σ : State)
      → convert_from room start 1 (lines text) ≡ converted σ
      → Holds room σ bytes rooted n
      → Ends room text bytes rooted (Ok n)
  stopped : {r : Refusal} → convert_from room start 1 (lines text) ≡ refused (fault_number r.fault) r.line → Ends room text bytes rooted (Err r)
