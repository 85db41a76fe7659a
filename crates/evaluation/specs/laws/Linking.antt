-- What the functions of the index take from the definitions: position by position, a link put in front of its chain.
use Rattle.std.specs.Prelude.{◌≡◌, refl, true, not, ◌&&◌, List, [], ltb, length, get_or, replicate}
use Rattle.std.proofs.Common.{sym, ap, ◌∙◌, inl, inr, add-one}
use Rattle.std.proofs.Math.Bool.{and-true}
use Prim.Native.Nat.{ℕ, zero, suc, ◌+◌, ◌*◌, ◌≤◌, ◌<◌, max}
use native.Mathlib.Omega.{arith}
use Rattle.std.proofs.Math.Nat.{not-suc-le-zero}
use Rattle.std.proofs.Math.Decide.{ℕ_discrete}
use Rattle.std.proofs.Math.Dec.{eqb}
use Rattle.problem.specs.declared.layout.Node.{Node}
use Rattle.problem.specs.Layout.{node_at}
use Rattle.problem.specs.Refusals.{Accepted, checked}
use Rattle.evaluation.specs.Lists.{Lists.done}
use Rattle.nodes.specs.Problem.{problem}
use Rattle.evaluation.specs.Readers.{Reads, Above}
use Rattle.nodes.specs.inner.Nodes.{operand_count, operand_at}
use Rattle.evaluation.specs.inner.Lists.{ListsFrom.none}
use Rattle.evaluation.specs.inner.Readers.{linked, links, in_front, ChainFrom, ChainFrom.ends, Linkable, Unlinked, Ended, Linking, Unindexed, Indexed}
use Rattle.nodes.specs.laws.Good.{good_of}
use Rattle.evaluation.specs.laws.Lists.{lists_from}
use Rattle.evaluation.specs.laws.Links.{grown, up_to, up_to_more, up_to_most, linked_there, one_hit, handed_down}
use Rattle.evaluation.specs.laws.Chains.{chain_of, chain_wider, front_chain, front_slot, length_front}
use Rattle.evaluation.specs.laws.Above.{above_through, reads_below}

-- what the test of a position computes
module _ (n : Node) (k : ℕ) (q : k ≡ operand_count n) where
  pub link_first : (j : ℕ) → j ≡ 0 → ltb j k ≡ links n j
  unfolding linked
  link_first j e = rw (e, q) (sym (and-true (ltb 0 (operand_count n))))

  pub link_second : (j : ℕ) → j ≡ 1 → (ltb j k && not (eqb n.b n.a)) ≡ links n j
  unfolding linked
  link_second j e = rw (e, q)

  pub link_third : (j : ℕ) → (j ≡ 0 → ⊥) → (j ≡ 1 → ⊥) → (ltb j k && (not (eqb n.c n.a) && not (eqb n.c n.b))) ≡ links n j
  unfolding linked
  link_third zero x y = absurd (x refl)
  link_third (suc zero) x y = absurd (y refl)
  link_third (suc (suc j)) x y = rw q

-- ---- position j of node i of an accepted problem

-- every node's chain, with links from slot q on
abbrev Chained : List ℕ → ℕ → List ℕ → (ℕ → List ℕ) → Type 0
Chained s q slots readers = (m : ℕ) → m < (problem s).nodes → ChainFrom q slots (get_or slots (4 * m) 0) (readers m)

-- the same with room for all
record Stage (s : List ℕ) (q : ℕ) (slots : List ℕ) (readers : ℕ → List ℕ) : Type 0 where
  room : 4 * (problem s).nodes ≤ length slots
  chain : Chained s q slots readers

module _ (s : List ℕ) (a : checked s ≡ Accepted) (i : ℕ) (l : i < (problem s).nodes) (d : Node) (e : d ≡ node_at s i) (j : ℕ) (h : j < 3) where
  link_there : links d j ≡ true → j < operand_count (node_at s i)
  link_there p = rw e at (linked_there _ _ j p)

  operand_below : links d j ≡ true → operand_at d j < i
  unfolding problem
  operand_below p = rw e (((good_of s a).node i l).below j (link_there p))

  -- a node without links is none that has one
  unlinked_other : (m : ℕ) → Unlinked s i m → links d j ≡ true → m ≡ i → ⊥
  unfolding problem
  unlinked_other m (inl b) p z = omega arith
  unlinked_other m (inr v) p z =
      let k : (node_at s i).kind ≡ 0 = rw z at v in
      not-suc-le-zero (rw k at (link_there p))

  module _ {q : ℕ} {slots : List ℕ} {readers : ℕ → List ℕ} (g : Stage s q slots readers) where
    linkable : Linkable slots d i j
    linkable =
        record {
          few = omega (arith, (good_of s a).few);
          position = h;
          own = omega (arith, g.room);
          begin = λ p. omega (arith, operand_below p, g.room);
        }

    module _ (end : ℕ) {next : List ℕ} (n : next ≡ in_front (links d j) (operand_at d j) (4 * i + 1 + j) end slots) where
      stage_next : 4 * i + 1 + j < q → Stage s (4 * i + 1 + j) next (λ m. grown (links d j && eqb (operand_at d j) m) i (readers m))
      stage_next before =
          record {
            room = omega (arith, g.room, ap length n ∙ length_front (links d j) (operand_at d j) (4 * i + 1 + j) end slots);
            chain = λ m b.
                rw n
                (front_chain i j (4 * i + 1 + j) (operand_at d j) end slots refl h m (omega (arith, g.room)) (links d j) operand_below before
                (g.chain m b));
          }

      slot_next :
          (m : ℕ) → Unlinked s i m → get_or next (4 * m + 1) 0 ≡ up_to (links d j && eqb (operand_at d j) m) end (get_or slots (4 * m + 1) 0)
      slot_next m f =
          rw n
          (front_slot i j (4 * i + 1 + j) (operand_at d j) end slots refl h m (omega (arith, g.room)) (links d j) operand_below
          (unlinked_other m f))

unlinked_before : (s : List ℕ) {i m : ℕ} → Unlinked s i m → Unlinked s (i + 1) m
unlinked_before s (inl b) = inl (omega arith)
unlinked_before s (inr v) = inr v

-- ---- the three positions of node i

module _ {s : List ℕ} {i : ℕ} {d : Node} (l : i < (problem s).nodes) (e : d ≡ node_at s i) {x : List ℕ} (w : Linking s (i + 1) x) where
  abbrev ok : checked s ≡ Accepted
  ok = w.accepted

  from_next : Stage s (4 * (i + 1)) x w.readers
  from_next = record { room = w.room; chain = w.chain }

  pub linkable_2 : Linkable x d i 2
  linkable_2 = linkable s ok i l d e 2 (omega arith) from_next

  module _ {end : ℕ} (t : end ≡ max (get_or x (4 * i + 1) 0) (i + 1)) {y : List ℕ} (p : y ≡ in_front (links d 2) (operand_at d 2) (4 * i + 1 + 2) end x) where
    end_most : end ≤ (problem s).nodes
    end_most = omega (arith, (w.end i (inl (omega arith))).most)

    -- what is above i stands before its end
    above_here : (k : ℕ) → Above (problem s) i k → k < end
    above_here k a =
        elim (above_through a) [
          | inl z ↦ omega arith
          | inr o ↦
              let after = reads_below (problem s) (good_of s ok) o.inside o.reads in
              omega (arith, (w.end i (inl (omega arith))).past o.reader k (omega arith) o.inside o.reads o.above)
        ]

    from_2 : Stage s (4 * i + 1 + 2) y (λ m. grown (links d 2 && eqb (operand_at d 2) m) i (w.readers m))
    from_2 = stage_next s ok i l d e 2 (omega arith) from_next end p (omega arith)

    pub linkable_1 : Linkable y d i 1
    linkable_1 = linkable s ok i l d e 1 (omega arith) from_2

    module _ {z : List ℕ} (q : z ≡ in_front (links d 1) (operand_at d 1) (4 * i + 1 + 1) end y) where
      from_1 :
          Stage s (4 * i + 1 + 1) z
          (λ m. grown (links d 1 && eqb (operand_at d 1) m) i (grown (links d 2 && eqb (operand_at d 2) m) i (w.readers m)))
      from_1 = stage_next s ok i l d e 1 (omega arith) from_2 end q (omega arith)

      pub linkable_0 : Linkable z d i 0
      linkable_0 = linkable s ok i l d e 0 (omega arith) from_1

      module _ {u : List ℕ} (r : u ≡ in_front (links d 0) (operand_at d 0) (4 * i + 1 + 0) end z) where
        pub linked_long : length u ≡ length x
        linked_long =
            ap length r
            ∙ length_front (links d 0) _ _ _ z
            ∙ ap length q
            ∙ length_front (links d 1) _ _ _ y
            ∙ ap length p
            ∙ length_front (links d 2) _ _ _ x

        -- what node m, which has no links, hears from node i
        heard :
            (m : ℕ)
            → Unlinked s i m
            → get_or u (4 * m + 1) 0
            ≡ up_to (links d 0 && eqb (operand_at d 0) m) end
            (up_to (links d 1 && eqb (operand_at d 1) m) end (up_to (links d 2 && eqb (operand_at d 2) m) end (get_or x (4 * m + 1) 0)))
        heard m f =
            slot_next s ok i l d e 0 (omega arith) from_1 end r m f
            ∙ ap (up_to (links d 0 && eqb (operand_at d 0) m) end)
            (slot_next s ok i l d e 1 (omega arith) from_2 end q m f
            ∙ ap (up_to (links d 1 && eqb (operand_at d 1) m) end) (slot_next s ok i l d e 2 (omega arith) from_next end p m f))

        handed : (m : ℕ) → Unlinked s i m → Reads (problem s) m i → end ≤ get_or u (4 * m + 1) 0
        unfolding problem
        handed m f o = rw (heard m f, e) (handed_down (problem s) m i end (get_or x (4 * m + 1) 0) o)

        kept : (m : ℕ) → Unlinked s i m → get_or x (4 * m + 1) 0 ≤ get_or u (4 * m + 1) 0
        kept m f =
            rw (heard m f)
            (up_to_more (links d 0 && eqb (operand_at d 0) m) (links d 1 && eqb (operand_at d 1) m) (links d 2 && eqb (operand_at d 2) m) end _)

        heard_most : (m : ℕ) → Unlinked s i m → get_or x (4 * m + 1) 0 ≤ (problem s).nodes → get_or u (4 * m + 1) 0 ≤ (problem s).nodes
        heard_most m f h =
            rw (heard m f)
            (up_to_most (links d 0 && eqb (operand_at d 0) m) (links d 1 && eqb (operand_at d 1) m) (links d 2 && eqb (operand_at d 2) m) end _ _ h
            end_most)

        linked_end : (m : ℕ) → Unlinked s i m → Ended s i u m
        linked_end m f =
            let o = w.end m (unlinked_before s f) in
            record {
              most = heard_most m f o.most;
              past = λ n k h b c a.
                  elim (ℕ_discrete n i) [
                    | yes j ↦ omega (arith, above_here k (rw j at a), handed m f (rw j at c))
                    | no j ↦ omega (arith, o.past n k (omega arith) b c a, kept m f)
                  ];
            }

        pub linked_node : Linking s i u
        unfolding problem
        linked_node =
            let g = stage_next s ok i l d e 0 (omega arith) from_1 end r (omega arith) in
            record {
              accepted = ok;
              room = g.room;
              readers = λ m.
                  grown (links d 0 && eqb (operand_at d 0) m) i
                  (grown (links d 1 && eqb (operand_at d 1) m) i (grown (links d 2 && eqb (operand_at d 2) m) i (w.readers m)));
              chain = λ m b. chain_wider (omega arith) (g.chain m b);
              each = λ m b. rw e (one_hit (problem s) m i (rw (add-one i) at (w.each m b)));
              end = linked_end;
            }

-- ---- all nodes

pub linking_none : {s slots : List ℕ} {n : ℕ} → checked s ≡ Accepted → Unindexed s slots → n ≡ (problem s).nodes → Linking s n slots
linking_none {s} {slots} {n} a u e =
    record {
      accepted = a;
      room = u.room;
      readers = λ m. [];
      chain = λ m b. ends (u.none (4 * m));
      each = λ m b. rw e none;
      end = λ m f.
          record { most = omega (arith, u.none (4 * m + 1)); past = λ k j h b. absurd (omega arith) };
    }

pub linking_all : {s slots : List ℕ} → Linking s 0 slots → Indexed s slots
linking_all {s} w =
    record {
      room = w.room;
      index = record {
        readers = w.readers;
        chain = λ m b. chain_of (w.chain m b);
        each = λ m b. lists_from [] done (w.each m b);
      };
      end = λ v k. w.end v (inr k);
    }

-- an array of zeros is what an index is made in, and marks are
pub zeros_at : (n k : ℕ) → ◌≡◌ {A = ℕ} (get_or (replicate n 0) k 0) 0
zeros_at zero k = refl
zeros_at (suc n) zero = refl
zeros_at (suc n) (suc k) = zeros_at n k
