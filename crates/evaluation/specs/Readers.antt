-- R-7, "Know who reads a variable": who reads whom, the index of readers, and what lies above a node.
use Rattle.std.specs.Prelude.{◌≡◌, List, [], ◌∷◌, ℕ, ◌+◌, ◌*◌, ◌<◌, get_or, set}
use Rattle.nodes.specs.Problem.{Prob, count, arg, value_of}
use Rattle.evaluation.specs.Lists.{Lists}

-- A node has four slots. In slot 4m begins the chain of the nodes that read m; slots 4i + 1, 4i + 2 and 4i + 3 are node i's links in
-- the chains of what it has at its positions. A slot holds the number of its chain's next slot; 0, which is no link, ends it.
-- The nodes of the chain that goes on at a slot:
pub data Chain (slots : List ℕ) : ℕ → List ℕ → Type 0 where
  ends : {at : ℕ} → at ≡ 0 → Chain slots at []
  link : {at i j : ℕ} {l : List ℕ} → at ≡ 4 * i + 1 + j → j < 3 → Chain slots (get_or slots at 0) l → Chain slots at (i ∷ l)

module _ (P : Prob) where
  -- node n reads m: it has m at one of its positions
  pub record Reads (m n : ℕ) : Type 0 where
    pub position : ℕ
    pub there : position < count P n
    pub is : arg P n position ≡ m

  -- "an index of which nodes read each node, in ascending id": each reader once, at however many positions it reads
  pub record Index (slots : List ℕ) : Type 0 where
    pub readers : ℕ → List ℕ
    pub chain : (m : ℕ) → m < P.nodes → Chain slots (get_or slots (4 * m) 0) (readers m)
    pub each : (m : ℕ) → m < P.nodes → Lists (Reads m) P.nodes (readers m)

  -- "reachable upward from it, itself included", over all nodes of the problem
  pub data Above (v : ℕ) : ℕ → Type 0 where
    itself : Above v v
    onward : {m n : ℕ} → Above v m → n < P.nodes → Reads m n → Above v n

-- the nodes of a list evaluated, in its order
unfoldable pub eval_over : Prob → List ℕ → List ℕ → List ℕ
eval_over P [] vs = vs
eval_over P (n ∷ l) vs = eval_over P l (set vs n (value_of P vs n))
