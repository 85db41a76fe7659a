-- Laws of what lies above a node: it can be decided, by searches that are never run, so it has its list; a changed variable bears
-- on nothing else; and to evaluate that list is to evaluate all.
use Rattle.std.specs.Prelude.{◌≡◌, ◌⊎◌, List, [], ◌∷◌, ◌++◌, length, get_or, set}
use Rattle.std.proofs.Math.Path.{refl, sym}
use Rattle.std.proofs.Common.{◌∙◌, subst, inl, inr, arith, not-suc-le-zero, le_refl, length-set, get_or-set_same, ext_get_or}
use Prim.Native.Nat.{ℕ, zero, suc, ◌+◌, ◌≤◌, ◌<◌}
use Rattle.std.proofs.Math.Numerals.{add-one}
use Rattle.std.proofs.Math.Decide.{ℕ_discrete, dec_lt}
use Rattle.std.proofs.Math.Seq.{get_or-set_other}
use Rattle.nodes.specs.Problem.{Prob, count, arg, Variable, value_of, evaluate}
use Rattle.nodes.specs.Values.{Evaluated}
use Rattle.nodes.specs.inner.Good.{Good}
use Rattle.evaluation.specs.Lists.{Lists, Lists.done, Lists.keep, Lists.skip}
use Rattle.nodes.specs.laws.Nodes.{value_own, value_same}
use Rattle.evaluation.specs.laws.Values.{length_evaluate, evaluate_above, evaluate_variable, evaluate_fixed}
use Rattle.evaluation.specs.Readers.{Reads, Above, itself, onward, eval_over}
use Rattle.evaluation.specs.laws.Decide.{Some, Listed, dec_both, dec_map, dec_some, listed}

-- a reader of v that k is above
pub record Through (P : Prob) (v k : ℕ) : Type 0 where
  pub reader : ℕ
  pub inside : reader < P.nodes
  pub reads : Reads P v reader
  pub above : Above P reader k

-- what is above v is v or above one of its readers
pub above_through : {P : Prob} {v k : ℕ} → Above P v k → (k ≡ v) ⊎ Through P v k
above_through itself = inl refl
above_through {P} {v} (onward {m} {n} a l r) =
    elim (above_through a) [
      | inl e ↦ inr (record { reader = n; inside = l; reads = subst (λ (k : ℕ). Reads P k n) e r; above = itself })
      | inr t ↦ inr (record { reader = t.reader; inside = t.inside; reads = t.reads; above = onward t.above l r })
    ]

module _ (P : Prob) (g : Good P) where
  pub reads_below : {m n : ℕ} → n < P.nodes → Reads P m n → m < n
  reads_below {m} {n} l r = rw r.is at ((g.node n l).below r.position r.there)

  dec_reads : (m n : ℕ) → Dec (Reads P m n)
  dec_reads m n =
      dec_map (λ s. record { position = s.at; there = s.at_lt; is = s.holds }) (λ r. record { at = r.position; at_lt = r.there; holds = r.is })
      (dec_some (λ i. arg P n i ≡ m) (count P n) (λ i _. ℕ_discrete (arg P n i) m))

  module _ (v : ℕ) where
    -- n is v, or reads a node below it that is above v
    from_below : {n : ℕ} → n < P.nodes → Some (λ m. Above P v m × Reads P m n) n → Above P v n
    from_below l s = onward s.holds.0 l s.holds.1

    into : {n : ℕ} → (n ≡ v → ⊥) → Above P v n → Some (λ m. Above P v m × Reads P m n) n
    into x itself = absurd (x refl)
    into x (onward {m} a l r) = record { at = m; at_lt = reads_below l r; holds = (a, r) }

    dec_above : (k n : ℕ) → n < k → n < P.nodes → Dec (Above P v n)
    dec_above zero n h l = absurd (not-suc-le-zero h)
    dec_above (suc k) n h l =
        elim (ℕ_discrete n v) [
          | yes e ↦ yes (rw e itself)
          | no x ↦
              dec_map (from_below l) (into x)
              (dec_some (λ m. Above P v m × Reads P m n) n (λ m q. dec_both (dec_above k m (omega arith) (omega arith)) (dec_reads m n)))
        ]

    pub above_listed : Listed (Above P v) P.nodes
    above_listed = listed (Above P v) P.nodes (λ n l. dec_above P.nodes n l l)

  pub above_inside : {v n : ℕ} → v < P.nodes → Above P v n → n < P.nodes
  above_inside l itself = l
  above_inside l (onward a h r) = h

  pub above_from : {v n : ℕ} → Above P v n → v ≤ n
  above_from {v} itself = le_refl v
  above_from (onward a h r) = omega (arith, above_from a, reads_below h r)

eval_over_more : (P : Prob) (l : List ℕ) (n : ℕ) (vs : List ℕ) → eval_over P (l ++ (n ∷ [])) vs ≡ set (eval_over P l vs) n (value_of P (eval_over P l vs) n)
unfolding eval_over
eval_over_more P [] n vs = refl
eval_over_more P (m ∷ l) n vs = eval_over_more P l n (set vs m (value_of P vs m))

-- of the changed values us, those of the nodes below f are new in ws, the others as they were
pub record Renewed (P : Prob) (us : List ℕ) (f : ℕ) (ws : List ℕ) : Type 0 where
  pub long : length ws ≡ length us
  pub done : (n : ℕ) → n < f → get_or ws n 0 ≡ get_or (evaluate P us) n 0
  pub left : (n : ℕ) → f ≤ n → get_or ws n 0 ≡ get_or us n 0

pub renewed_none : (P : Prob) (us : List ℕ) → Renewed P us 0 us
renewed_none P us = record { long = refl; done = λ n h. absurd (not-suc-le-zero h); left = λ n h. refl }

pub renewed_all : (P : Prob) (us : List ℕ) {f : ℕ} {ws : List ℕ} → P.nodes ≤ f → Renewed P us f ws → ws ≡ evaluate P us
renewed_all P us {f} {ws} past r = ext_get_or 0 ws (evaluate P us) (r.long ∙ sym (length_evaluate P us)) (λ n h. at n)
  where
    at : (n : ℕ) → get_or ws n 0 ≡ get_or (evaluate P us) n 0
    at n =
        elim (dec_lt n f) [
          | yes h ↦ r.done n h
          | no x ↦ r.left n (omega (arith, past)) ∙ sym (evaluate_above P us n (omega (arith, past)))
        ]

-- variable v of evaluated values vs takes x
module _ (P : Prob) (g : Good P) (vs : List ℕ) (room : P.nodes ≤ length vs) (ev : Evaluated P vs) (v x : ℕ) (var : Variable P v) where
  abbrev us : List ℕ
  us = set vs v x

  roomy : P.nodes ≤ length us
  roomy = omega (arith, length-set vs v x)

  -- a node that is not above v is not v
  aside : (n : ℕ) → (Above P v n → ⊥) → n ≡ v → ⊥
  aside n y e = y (rw e itself)

  kept_below : (k n : ℕ) → n < k → n < P.nodes → (Above P v n → ⊥) → get_or (evaluate P (set vs v x)) n 0 ≡ get_or vs n 0
  unfolding Evaluated
  kept_below zero n h l y = absurd (not-suc-le-zero h)
  kept_below (suc k) n h l y =
      elim (ℕ_discrete (P.kind n) 0) [
        | yes z ↦ evaluate_variable P us n (omega (arith, roomy)) z ∙ get_or-set_other vs v n x 0 (aside n y)
        | no z ↦
            evaluate_fixed P g us roomy n l
            ∙ value_same P n (evaluate P us) vs z
            (λ i b. let q : arg P n i < n = (g.node n l).below i b in
            kept_below k (arg P n i) (omega arith) (omega arith) (λ a. y (onward a l (record { position = i; there = b; is = refl }))))
            ∙ sym (ev n l)
      ]

  -- nodes that are not above v keep their values
  pub kept : (n : ℕ) → n < P.nodes → (Above P v n → ⊥) → get_or (evaluate P (set vs v x)) n 0 ≡ get_or vs n 0
  kept n l y = kept_below P.nodes n l l y

  module _ {f : ℕ} {ws : List ℕ} (r : Renewed P (set vs v x) f ws) (l : f < P.nodes) where
    -- node f is passed over
    pub renewed_skip : (Above P v f → ⊥) → Renewed P (set vs v x) (f + 1) ws
    renewed_skip y =
        record {
          long = r.long;
          done = λ n h. elim (ℕ_discrete n f) [ yes e ↦ rw e here | no z ↦ r.done n (omega arith) ];
          left = λ n h. r.left n (omega arith);
        }
      where
        here : get_or ws f 0 ≡ get_or (evaluate P (set vs v x)) f 0
        here = r.left f (le_refl f) ∙ get_or-set_other vs v f x 0 (aside f y) ∙ sym (kept f l y)

    -- where all nodes below f are evaluated, f has its value from them
    pub renewed_value : value_of P ws f ≡ get_or (evaluate P (set vs v x)) f 0
    unfolding Evaluated
    renewed_value =
        elim (ℕ_discrete (P.kind f) 0) [
          | yes z ↦ value_own P f ws z ∙ r.left f (le_refl f) ∙ sym (evaluate_variable P us f (omega (arith, roomy)) z)
          | no z ↦
              value_same P f ws (evaluate P us) z (λ i b. r.done (arg P f i) ((g.node f l).below i b))
              ∙ sym (evaluate_fixed P g us roomy f l)
        ]

    -- node f is evaluated
    pub renewed_keep : {z : ℕ} → z ≡ value_of P ws f → Renewed P (set vs v x) (f + 1) (set ws f z)
    renewed_keep {z} e =
        record {
          long = length-set ws f z ∙ r.long;
          done = λ n h.
              elim (ℕ_discrete n f) [
                | yes q ↦ rw q (get_or-set_same ws f z 0 (omega (arith, r.long, roomy)) ∙ e ∙ renewed_value)
                | no y ↦ get_or-set_other ws f n z 0 y ∙ r.done n (omega arith)
              ];
          left = λ n h. get_or-set_other ws f n z 0 (omega arith) ∙ r.left n (omega arith);
        }

  -- a node, or a place past them, that is not above v is passed over
  pub renewed_pass : {f : ℕ} {ws : List ℕ} → Renewed P (set vs v x) f ws → (Above P v f → ⊥) → Renewed P (set vs v x) (f + 1) ws
  renewed_pass {f} {ws} r y =
      elim (dec_lt f P.nodes) [
        | yes l ↦ renewed_skip r l y
        | no z ↦
            record {
              long = r.long;
              done = λ n h.
                  elim (ℕ_discrete n f) [
                    | yes e ↦ rw e (r.left f (le_refl f) ∙ sym (evaluate_above P us f (omega arith)))
                    | no q ↦ r.done n (omega arith)
                  ];
              left = λ n h. r.left n (omega arith);
            }
      ]

  module _ (inside : v < P.nodes) where
    renewed_by : {f : ℕ} {l : List ℕ} → Lists (Above P v) f l → Renewed P (set vs v x) f (eval_over P l (set vs v x))
    unfolding eval_over
    renewed_by done = renewed_none P us
    renewed_by (keep {n} {l} r a) =
        rw (← add-one n, eval_over_more P l n us) (renewed_keep (renewed_by r) (above_inside P g inside a) refl)
    renewed_by (skip {n} {l} r a) = rw (← add-one n) (renewed_pass (renewed_by r) a)

    -- "after a move evaluate only nodes above the changed variable": in ascending id, they are enough
    pub enough : {f : ℕ} {l : List ℕ} → P.nodes ≤ f → Lists (Above P v) f l → eval_over P l (set vs v x) ≡ evaluate P (set vs v x)
    enough past r = renewed_all P us past (renewed_by r)
