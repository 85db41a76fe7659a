-- Laws of the ready nodes as marks: a node tried, the lowest, and what a placing leaves to try.
use Rattle.std.specs.Prelude.{◌≡◌, refl, Bool, true, false, cond, ◌⊎◌, List, length, get_or, set}
use Rattle.std.proofs.Common.{sym, ap, ◌∙◌, subst, true≢false, inl, inr}
use Prim.Native.Nat.{ℕ, ◌+◌, ◌-◌, ◌*◌, ◌/◌, ◌≤◌, ◌<◌, min}
use Rattle.std.proofs.Math.Decide.{ℕ_discrete}
use native.Mathlib.Omega.{arith}
use Rattle.words.specs.inner.Marks.{Marked, with_mark, without_mark, Lowest}
use Rattle.words.specs.laws.Marks.{mark_more, mark_less}
use Rattle.problem.specs.Layout.{node_count}
use Rattle.problem.specs.inner.Facts.{HeaderFacts}
use Rattle.mending.specs.Order.{none, ready, lowest_ready}
use Rattle.mending.specs.inner.Chains.{Chained, Pending, Tried, Exact, Waking, Settling, Triable, Settled}
use Rattle.mending.specs.laws.Chains.{pending_reader, pending_step, reads_or_not, pending_none}
use Rattle.mending.specs.laws.Least.{least_is, least_only}
use Rattle.mending.specs.laws.Ready.{ready_gone, ready_kept, ready_others}
use Rattle.std.proofs.Math.Seq.{set_out}

pub next_left : (i j : ℕ) → i ≤ j → (i + 1 ≤ j) ⊎ (j ≡ i)
next_left i j h = elim (ℕ_discrete j i) [ yes e ↦ inr e | no n ↦ inl (omega arith) ]

-- the node of a slot
slot_node : (at n : ℕ) → 0 < at → at ≤ 3 * n → (at - 1) / 3 < n
slot_node at n h l = omega arith

module _ (s news : List ℕ) where
  -- ---- a node tried

  module _ (A B : ℕ → Type 0) (m : List ℕ) (i : ℕ) (T : Tried s news A m) (small : i < node_count s) (few : node_count s ≤ 1024) (left : (j : ℕ) → A j → B j ⊎ (j ≡ i)) where
    tried_either : (t : Bool) → ready s news i ≡ t → Tried s news B (cond t (with_mark m i) m)
    tried_either true r =
        let a = mark_more m i (omega (arith, T.words)) in
        record {
          words = a.long ∙ T.words;
          sound = λ j k. elim (a.only j k) [ inl h ↦ T.sound j h | inr q ↦ (rw q small, ap (ready s news) q ∙ r) ];
          full =
              λ j l q.
              elim (T.full j l q) [
                | inl h ↦ inl (a.kept j h)
                | inr h ↦ elim (left j h) [ inl b ↦ inr b | inr e ↦ inl (a.put j e) ]
              ];
        }
    tried_either false r =
        record {
          words = T.words;
          sound = T.sound;
          full =
              λ j l q.
              elim (T.full j l q) [
                | inl h ↦ inl h
                | inr h ↦ elim (left j h) [ inl b ↦ inr b | inr e ↦ absurd (true≢false (sym q ∙ ap (ready s news) e ∙ r)) ]
              ];
        }

    pub tried_more : (m' : List ℕ) → m' ≡ cond (ready s news i) (with_mark m i) m → Tried s news B m'
    tried_more m' e = subst (Tried s news B) (sym e) (tried_either (ready s news i) refl)

  -- ---- all nodes, one after the other

  -- ---- the lowest mark is the lowest node that is ready

  unready : (m : List ℕ) (r : ℕ) → Exact s news m → Lowest m 0 r → (j : ℕ) → j < r → j < node_count s → ready s news j ≡ false
  unready m r E L j h l = by (ready s news j) refl
    where
      by : (t : Bool) → ready s news j ≡ t → ready s news j ≡ false
      by true q = elim (E.full j l q) [ inl k ↦ absurd (L.clear j (omega arith) h k) | inr z ↦ absurd z ]
      by false q = q

  pub lowest_is : (m : List ℕ) (r : ℕ) → node_count s ≤ 1024 → Exact s news m → Lowest m 0 r → min r (node_count s) ≡ lowest_ready s news
  unfolding lowest_ready
  lowest_is m r few E L =
      least_only (ready s news)
      (record {
        most = omega arith;
        before = λ j h. unready m r E L j (omega arith) (omega arith);
        passes =
            λ h.
            let e : min r (node_count s) ≡ r = omega arith in
            rw e (E.sound r (L.is (omega arith))).1;
      })
      (least_is (ready s news) (node_count s))

  -- ---- a placing: the one placed is marked no more, and its readers are left

  module _ (heads nexts m : List ℕ) (x k : ℕ) (few : node_count s ≤ 1024) (C : Chained s (3 * node_count s) heads nexts) (places : length news ≡ node_count s) (E : Exact s news m) (node : x < node_count s) (is_ready : ready s news x ≡ true) (id : k ≡ none → ⊥) where
    marked : Marked m x
    marked = elim (E.full x node is_ready) [ inl h ↦ h | inr z ↦ absurd z ]

    inside : x < length news
    inside = rw places node

    pub placed_tried : Tried s (set news x k) (Pending nexts (get_or heads x 0)) (without_mark m x)
    placed_tried =
        let R = mark_less m x (omega (arith, E.words)) marked in
        record {
          words = R.long ∙ E.words;
          sound =
              λ j q.
              let b = E.sound j (R.only j q) in
              (b.0, ready_kept s news x k inside id j (λ e. R.gone (rw e at q)) b.1);
          full =
              λ j l q.
              elim (reads_or_not s j x) [
                | inl r ↦ inr (pending_reader s heads nexts j x C l r)
                | inr z ↦
                    elim (E.full j l (ready_others s news x k inside id j z q)) [
                      | inl h ↦ inl (R.kept j (λ e. ready_gone s news x k inside id (rw e at q)) h)
                      | inr z ↦ absurd z
                    ]
              ];
        }

-- ---- as the code has it

lowest_ready_lem : (s news : List ℕ) → lowest_ready s news < node_count s → ready s news (lowest_ready s news) ≡ true
unfolding lowest_ready
lowest_ready_lem s news h = (least_is (ready s news) (node_count s)).passes h

pub id_lowest :
    (s news m : List ℕ) (low n id : ℕ)
    → node_count s ≤ 1024
    → Exact s news m
    → Lowest m 0 low
    → n ≡ node_count s
    → id ≡ min low n
    → id ≡ lowest_ready s news
id_lowest s news m low n id few E L e f = f ∙ ap (min low) e ∙ lowest_is s news m low few E L

module _ {s heads nexts news m : List ℕ} {id k : ℕ} (H : HeaderFacts s) (S : Settling s heads nexts news m id k) where
  -- a node placed: its readers are left
  pub settle_waking : (m' : List ℕ) → id < length news → m' ≡ without_mark m id → Waking s heads nexts (set news id k) m' id
  settle_waking m' h e =
      let few = H.nodes in
      let node : id < node_count s = rw S.places at h in
      let r : ready s news id ≡ true = rw S.lowest (lowest_ready_lem s news (rw S.lowest at node)) in
      record {
        chained = S.chained;
        node = node;
        tried = rw e (placed_tried s news heads nexts m id k few S.chained S.places S.exact node r (λ z. absurd (omega (arith, S.number, H.nodes))));
      }

-- down a chain
module _ (s news nexts m : List ℕ) (at : ℕ) (H : HeaderFacts s) (h : 0 < at) (l : at ≤ 3 * node_count s) (T : Tried s news (Pending nexts at) m) where
  pub wake_more :
      (m' : List ℕ)
      → m' ≡ cond (ready s news ((at - 1) / 3)) (with_mark m ((at - 1) / 3)) m
      → Tried s news (Pending nexts (get_or nexts (at - 1) 0)) m'
  wake_more m' e =
      tried_more s news (Pending nexts at) (Pending nexts (get_or nexts (at - 1) 0)) m ((at - 1) / 3) T (slot_node at (node_count s) h l) H.nodes
      (λ j. pending_step nexts at j h) m' e

-- ---- all nodes tried, one that can be tried, and what stands where nothing was ready
module _ (s news : List ℕ) where
  pub tried_none : (m : List ℕ) → length m ≡ 16 → ((j : ℕ) → Marked m j → ⊥) → Tried s news (λ j. 0 ≤ j) m
  tried_none m w x = record { words = w; sound = λ j k. absurd (x j k); full = λ j l q. inr (omega arith) }

  pub tried_all : (A : ℕ → Type 0) (m : List ℕ) → Tried s news A m → ((j : ℕ) → j < node_count s → A j → ⊥) → Exact s news m
  tried_all A m T x =
      record {
        words = T.words;
        sound = T.sound;
        full = λ j l q. elim (T.full j l q) [ inl h ↦ inl h | inr a ↦ absurd (x j l a) ];
      }

pub all_tried : (s news m : List ℕ) (i n : ℕ) → n ≡ node_count s → n ≤ i → Tried s news (λ j. i ≤ j) m → Exact s news m
all_tried s news m i n e h T = tried_all s news (λ j. i ≤ j) m T (λ j l a. absurd (omega arith))

-- a node of the file can be tried
pub triable : (s m : List ℕ) (i : ℕ) → HeaderFacts s → i < node_count s → length m ≡ 16 → Triable s i m
triable s m i H h w = record { stands = omega (arith, H.whole); small = omega (arith, H.nodes); words = w }

module _ (s news nexts m : List ℕ) (at : ℕ) (H : HeaderFacts s) (h : 0 < at) (l : at ≤ 3 * node_count s) (T : Tried s news (Pending nexts at) m) where
  pub wake_triable : Triable s ((at - 1) / 3) m
  wake_triable = triable s m ((at - 1) / 3) H (slot_node at (node_count s) h l) T.words

pub wake_end : (s news nexts m : List ℕ) (at : ℕ) → at ≤ 0 → Tried s news (Pending nexts at) m → Exact s news m
wake_end s news nexts m at h T =
    let e : at ≡ 0 = omega arith in tried_all s news (Pending nexts at) m T (λ j l p. pending_none nexts j (rw e at p))

module _ {s heads nexts news m : List ℕ} {id k : ℕ} (S : Settling s heads nexts news m id k) where
  -- nothing was ready
  pub settle_none : length news ≤ id → Settled s news id k news m
  settle_none h = record { news_are = sym (set_out news id k h); exact = S.exact }
