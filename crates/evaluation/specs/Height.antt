-- H, the longest chain of operand links under a root.
use Rattle.std.specs.Prelude.{ℕ, suc, ◌≤◌, ◌<◌}
use Rattle.nodes.specs.Problem.{Prob, count, arg}

module _ (P : Prob) where
  -- a chain of k operand links from node n down
  pub data Chain : ℕ → ℕ → Type 0 where
    ends : {n : ℕ} → Chain n 0
    link : {n i k : ℕ} → i < count P n → Chain (arg P n i) k → Chain n (suc k)

  -- one under a root
  pub record Under (k : ℕ) : Type 0 where
    pub entry : ℕ
    pub entry_lt : entry < P.entries
    pub chain : Chain (P.root entry) k

  -- "H is the longest chain of operand links under any root, 0 if there are none."
  pub record Longest (h : ℕ) : Type 0 where
    pub reached : 0 < h → Under h
    pub none_longer : (k : ℕ) → Under k → k ≤ h
