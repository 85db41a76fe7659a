-- What `convert(text, out)` promises: the definition's bytes at the start of the lent ones and nothing else changed, or a refusal and
-- nothing changed.
use Rattle.std.specs.Prelude.{◌≡◌, List, ℕ, length, Result, Ok, Err}
use Rattle.std.proofs.lemmas.List.Edits.{sets}
use Rattle.lines.specs.Faults.{fault_number}
use Rattle.btor2.specs.declared.Refusal.{Refusal}
use Rattle.btor2.specs.Conversion.{State, size, Outcome, converted, refused, outcome, bytes_of}

-- how many bytes were written, or why the text is refused
abbrev pub Converted : Type 0
Converted = Result ℕ Refusal

-- the paper's number, line and length of an answer, for each case: number and line are 0 where the text is converted, and the length 0 where it is not
abbrev pub number_of : Converted → ℕ
number_of (Ok n) = 0
number_of (Err r) = fault_number r.fault

abbrev pub line_of : Converted → ℕ
line_of (Ok n) = 0
line_of (Err r) = r.line

abbrev pub length_of : Converted → ℕ
length_of (Ok n) = n
length_of (Err r) = 0

-- what the lent bytes hold afterwards, and the answer, by what became of the text
pub data Answers (before after : List ℕ) : Outcome → Converted → Type 0 where
  done : {σ : State} → after ≡ sets before 0 (bytes_of σ) → Answers before after (converted σ) (Ok (size σ))
  refuses :
      {n k : ℕ} {r : Refusal}
      → fault_number r.fault ≡ n
      → r.line ≡ k
      → after ≡ before
      → Answers before after (refused n k) (Err r)

-- the contract: the room is what is lent
abbrev pub Converts : List ℕ → List ℕ → List ℕ → Converted → Type 0
Converts text before after r = Answers before after (outcome (length before) text) r
