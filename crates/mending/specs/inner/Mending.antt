-- What the mender's own functions ask and promise.
use Rattle.std.specs.Prelude.{Err as Refused, ◌≡◌, List, ◌++◌, ℕ, ◌+◌, ◌*◌, ◌≤◌, length, drop, replicate}
use Rattle.problem.specs.declared.Refusal.{Refusal}
use Rattle.problem.specs.Layout.{node_count}
use Rattle.problem.specs.inner.Facts.{HeaderFacts}
use Rattle.mending.specs.Order.{none, numbers}
use Rattle.mending.specs.Mended.{mended, old_ids}
use Rattle.mending.specs.Refusals.{fault_after}
use Rattle.mending.specs.inner.Order.{Readable, AllPlaced, Inside}
use Rattle.mending.specs.inner.Chains.{Chained}
use Rattle.problem.specs.Refusals.{Checked, Accepted}

-- 1,024 places in which nothing is placed yet
unfoldable pub blank : List ℕ
blank = replicate 1024 none

pub record Blank (s news olds : List ℕ) : Type 0 where
  pub header : HeaderFacts s
  pub inside : Inside s
  pub unplaced : news ≡ blank
  pub places : length olds ≡ 1024

-- a place for each node, and nothing is placed yet
pub record Fresh (s news olds : List ℕ) : Type 0 where
  pub header : HeaderFacts s
  pub inside : Inside s
  pub unplaced : news ≡ replicate (node_count s) none
  pub places : length olds ≡ node_count s

-- the same, and the chains of readers stand
pub record Waiting (s heads nexts news olds : List ℕ) : Type 0 where
  pub fresh : Fresh s news olds
  pub chained : Chained s (3 * node_count s) heads nexts

-- everything is that can be
pub record Placed (s news olds : List ℕ) : Type 0 where
  pub news_are : news ≡ numbers s (node_count s)
  pub olds_are : olds ≡ old_ids s

-- old node i can be written at a place
pub record Moving (s news : List ℕ) (i : ℕ) (out : List ℕ) (at : ℕ) : Type 0 where
  pub stands : Readable s i
  pub news_are : news ≡ numbers s (node_count s)
  pub fits : at + 24 ≤ length out

-- the roots can be written
pub record Numbered (s news : List ℕ) (room : ℕ) : Type 0 where
  pub header : HeaderFacts s
  pub news_are : news ≡ numbers s (node_count s)
  pub enough : length s ≤ room

-- the whole file can: all its nodes are placed
pub record Writable (s : List ℕ) (room : ℕ) : Type 0 where
  pub all : AllPlaced s
  pub enough : length s ≤ room

-- the new ids are found
pub record Ordered (s news : List ℕ) : Type 0 where
  pub news_are : news ≡ numbers s (node_count s)

-- what is left of a call once the order is found
pub data Finishes (s out map : List ℕ) : List ℕ → List ℕ → Checked → Type 0 where
  refuses : (r : Refusal) → fault_after s (length out) (length map) ≡ Refused r → Finishes s out map out map (Refused r)
  mends :
      fault_after s (length out) (length map) ≡ Accepted
      → Finishes s out map (mended s ++ drop (length s) out) (old_ids s ++ drop (node_count s) map) Accepted
