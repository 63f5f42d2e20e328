-- Numbers kept in 16 bits are judged as the numbers themselves, and taken over as they are.
use Prim.Native.Nat.{ℕ, zero, suc, min, ◌+◌, ◌-◌, ◌*◌, ◌/◌, ◌%◌, ◌≤◌, ◌<◌}
use mathlib.Core.Path.{◌≡◌, refl, sym, ◌∙◌, ap, subst}
use mathlib.Core.Bool.{Bool, true, false, not, cond, ◌||◌}
use mathlib.Core.List.{List, [], ◌∷◌}
use native.Mathlib.Omega.{arith}
use native.Mathlib.Nat.{add-zero}
use borrow.Author.Tests.{lt-ltb, le-ltb, ltb-true, ltb-false, eqb-true}
use lib.Dec.{ltb, eqb}
use lib.IntN.{pos}
use lib.ListN.{length, get_or, drop, length-map, get_or-map}
use lib.Seq.{ext_get_or}
use Rattle.answers.specs.declared.Answer.{Answer}
use Rattle.answers.specs.Numbers.{DONE, FRAME_OUT_OF_RANGE, PORTS_OUT_OF_RANGE, LIST_MISSHAPEN, FLOW_OUT_OF_RANGE, BUFFER_TOO_SMALL}
use Rattle.answers.specs.Limits.{max_frame, max_ports, max_flows, outside, Within}
use Rattle.answers.specs.Lowest.{lowest}
use Rattle.answers.specs.Answers.{answer, refusal, done_with, ◌when◌, is_done}
use Rattle.answers.proofs.Ranges.{inside}
use Rattle.answers.proofs.Lowest.{lowest_agree}
use Rattle.answers.proofs.First.{none_first, done_exactly}
use Rattle.flows.proofs.Shape.{in_range}
use Rattle.flows.specs.Flows.{per_flow, flow_count, IsFlow, input_of, output_of, cells_of, misshapen, flow_out_of_range, outputs_out_of_range, InRange, list_rules}
use Rattle.plan_text.specs.Plans.{max_word, in_words, over, plan_of, plan_if_done, over_if_done, take_rules, take_answer, taken_plan, taken_into}

-- the number as 16 bits keep it
abbrev word : ℕ → ℕ
word n = min n max_word

below_same : (x low : ℕ) → low ≤ max_word → ltb (word x) low ≡ ltb x low
below_same x low l = go (ltb x low) refl
  where
    go : (t : Bool) → ltb x low ≡ t → ltb (word x) low ≡ t
    go true e = lt-ltb (word x) low (omega (arith, ltb-true x low e))
    go false e = le-ltb (word x) low (omega (arith, ltb-false x low e))

above_same : (x high : ℕ) → high < max_word → ltb high (word x) ≡ ltb high x
above_same x high l = go (ltb high x) refl
  where
    go : (t : Bool) → ltb high x ≡ t → ltb high (word x) ≡ t
    go true e = lt-ltb high (word x) (omega (arith, ltb-true high x e))
    go false e = le-ltb high (word x) (omega (arith, ltb-false high x e))

-- a range whose ends are below the largest word judges both alike
outside_same : (low high x : ℕ) → low ≤ max_word → high < max_word → outside low high (word x) ≡ outside low high x
outside_same low high x l h =
    ap (λ (b : Bool). b || ltb high (word x)) (below_same x low l) ∙ ap (λ (b : Bool). ltb x low || b) (above_same x high h)

in_words_at : (L : List ℕ) (i : ℕ) → get_or (in_words L) i 0 ≡ word (get_or L i 0)
in_words_at L i = get_or-map (λ n. min n max_word) L i 0

flow_same : (M N : ℕ) (L : List ℕ) (k : ℕ) → M < max_word → N < max_word → flow_out_of_range M N (in_words L) k ≡ flow_out_of_range M N L k
flow_same M N L k m n =
    ap (λ (b : Bool). b || (outputs_out_of_range N (in_words L) k || outside 1 M (cells_of (in_words L) k))) (same N (per_flow * (k - 1)) n)
    ∙ ap (λ (b : Bool). outside 1 N (input_of L k) || (b || outside 1 M (cells_of (in_words L) k))) (same N (per_flow * (k - 1) + 1) n)
    ∙ ap (λ (b : Bool). outside 1 N (input_of L k) || (outputs_out_of_range N L k || b)) (same M (per_flow * (k - 1) + 2) m)
  where
    same : (high i : ℕ) → high < max_word → outside 1 high (get_or (in_words L) i 0) ≡ outside 1 high (get_or L i 0)
    same high i h = ap (λ (x : ℕ). outside 1 high x) (in_words_at L i) ∙ outside_same 1 high (get_or L i 0) (omega arith) h

words_length : (L : List ℕ) → length (in_words L) ≡ length L
words_length L = length-map L (λ n. min n max_word)

-- the answer, as a function of what it looks at: the ranges of frame and ports, and the lowest flow out of range
judged : List ℕ → ℕ → Bool → Bool → ℕ → Answer
judged L room frames ports low =
    cond frames (refusal FRAME_OUT_OF_RANGE)
    (cond ports (refusal PORTS_OUT_OF_RANGE)
    (cond (misshapen L) (refusal LIST_MISSHAPEN)
    (cond (ltb low (1 + flow_count L)) (answer FLOW_OUT_OF_RANGE (pos low)) (cond (ltb room (length L)) (refusal BUFFER_TOO_SMALL) (done_with (pos (flow_count L)))))))

lowest_of : ℕ → ℕ → List ℕ → ℕ
lowest_of M N L = lowest 1 (flow_count L) (flow_out_of_range M N L)

is_judged : (M N : ℕ) (L : List ℕ) (room : ℕ) → take_answer M N L room ≡ judged L room (outside 1 max_frame M) (outside 1 max_ports N) (lowest_of M N L)
unfolding take_answer judged lowest_of
is_judged M N L room = refl

-- lists of one length are judged alike where the rest is alike
judged_words : (L : List ℕ) (room : ℕ) (frames ports : Bool) (low : ℕ) → judged (in_words L) room frames ports low ≡ judged L room frames ports low
unfolding judged
judged_words L room frames ports low = ap (λ (n : ℕ). by_length n) (words_length L)
  where
    by_length : ℕ → Answer
    by_length n =
        cond frames (refusal FRAME_OUT_OF_RANGE)
        (cond ports (refusal PORTS_OUT_OF_RANGE)
        (cond (not (eqb (n % per_flow) 0) || ltb (per_flow * max_flows) n) (refusal LIST_MISSHAPEN)
        (cond (ltb low (1 + n / per_flow)) (answer FLOW_OUT_OF_RANGE (pos low)) (cond (ltb room n) (refusal BUFFER_TOO_SMALL) (done_with (pos (n / per_flow)))))))

word_is : (high x : ℕ) → high < max_word → outside 1 high x ≡ false → word x ≡ x
word_is high x h e = omega (arith, (inside {low = 1} {high = high} {x = x} e).at_most)

lowest_same : (M N : ℕ) (L : List ℕ) → M < max_word → N < max_word → lowest_of M N (in_words L) ≡ lowest_of M N L
unfolding lowest_of
lowest_same M N L m n =
    ap (λ (k : ℕ). lowest 1 (k / per_flow) (flow_out_of_range M N (in_words L))) (words_length L)
    ∙ lowest_agree 1 (flow_count L) (flow_out_of_range M N (in_words L)) (flow_out_of_range M N L) (λ k a u. flow_same M N L k m n)

pub take_same : (M N : ℕ) (L : List ℕ) (room : ℕ) → take_answer (word M) (word N) (in_words L) room ≡ take_answer M N L room
unfolding judged
take_same M N L room =
    is_judged (word M) (word N) (in_words L) room
    ∙ judged_words L room (outside 1 max_frame (word M)) (outside 1 max_ports (word N)) (lowest_of (word M) (word N) (in_words L))
    ∙ ap (λ (b : Bool). judged L room b (outside 1 max_ports (word N)) (lowest_of (word M) (word N) (in_words L))) (outside_same 1 max_frame M (omega arith) (omega arith))
    ∙ ap (λ (b : Bool). judged L room (outside 1 max_frame M) b (lowest_of (word M) (word N) (in_words L))) (outside_same 1 max_ports N (omega arith) (omega arith))
    ∙ go (outside 1 max_frame M) refl (outside 1 max_ports N) refl
    ∙ sym (is_judged M N L room)
  where
    go : (x : Bool) → outside 1 max_frame M ≡ x → (y : Bool) → outside 1 max_ports N ≡ y
        → judged L room x y (lowest_of (word M) (word N) (in_words L)) ≡ judged L room x y (lowest_of M N L)
    go true e y f = refl
    go false e true f = refl
    go false e false f =
        ap (λ (n : ℕ). judged L room false false n)
        (ap (λ (x : ℕ). lowest_of x (word N) (in_words L)) (word_is max_frame M (omega arith) e)
        ∙ ap (λ (x : ℕ). lowest_of M x (in_words L)) (word_is max_ports N (omega arith) f)
        ∙ lowest_same M N L (omega (arith, (inside {low = 1} {high = max_frame} {x = M} e).at_most)) (omega (arith, (inside {low = 1} {high = max_ports} {x = N} f).at_most)))

-- what is taken over is in range, so it is kept as it is
taken_range : (M N : ℕ) (L : List ℕ) (room : ℕ) → (take_answer M N L room).number ≡ DONE → InRange M N L
unfolding take_answer
taken_range M N L room d =
    in_range M N L (none_first (list_rules M N L) ((refusal BUFFER_TOO_SMALL when ltb room (length L)) ∷ []) ((done_exactly DONE (take_rules M N L room) (done_with (pos (flow_count L))) refl tt).0 d))

word_small : (x high : ℕ) → Within 1 high x → high ≤ max_word → word x ≡ x
word_small x high w h = omega (arith, w.at_most)

module _ (M N : ℕ) (L : List ℕ) (r : InRange M N L) where
  flow_at : (i : ℕ) → i < length L → IsFlow L (i / per_flow + 1)
  flow_at i u = record { at_least = omega arith; at_most = omega (arith, r.good_list.of_threes) }

  place : (i which : ℕ) → i % per_flow ≡ which → per_flow * (i / per_flow + 1 - 1) + which ≡ i
  place i which e = omega arith

  number_small : (i : ℕ) → i < length L → word (get_or L i 0) ≡ get_or L i 0
  number_small i u = go (i % per_flow) refl
    where
      k : ℕ
      k = i / per_flow + 1

      small : (which : ℕ) → i % per_flow ≡ which → word (get_or L (per_flow * (k - 1) + which) 0) ≡ get_or L (per_flow * (k - 1) + which) 0 → word (get_or L i 0) ≡ get_or L i 0
      small which e h = subst (λ (x : ℕ). word (get_or L x 0) ≡ get_or L x 0) (place i which e) h

      go : (which : ℕ) → i % per_flow ≡ which → word (get_or L i 0) ≡ get_or L i 0
      go zero e =
          small 0 e
          (subst (λ (x : ℕ). word (get_or L x 0) ≡ get_or L x 0) (sym (add-zero (per_flow * (k - 1))))
          (word_small (input_of L k) N (r.good_list.inputs k (flow_at i u)) (omega (arith, r.ports_in_range.at_most))))
      go (suc zero) e = small 1 e (word_small (output_of L k) N (r.good_list.outputs k (flow_at i u)) (omega (arith, r.ports_in_range.at_most)))
      go (suc (suc zero)) e = small 2 e (word_small (cells_of L k) M (r.good_list.cells k (flow_at i u)) (omega (arith, r.frame_in_range.at_most)))
      go (suc (suc (suc n))) e = absurd (omega arith)

  list_words : in_words L ≡ L
  list_words = ext_get_or 0 (in_words L) L (words_length L) (λ i u. in_words_at L i ∙ number_small i (subst (λ (n : ℕ). i < n) (words_length L) u))

module _ (M N : ℕ) (L : List ℕ) (room : ℕ) where
  pub plan_same : plan_if_done (take_answer (word M) (word N) (in_words L) room) (word M) (word N) ≡ plan_if_done (take_answer M N L room) M N
  plan_same = ap (λ (a : Answer). plan_if_done a (word M) (word N)) (take_same M N L room) ∙ go (is_done (take_answer M N L room)) refl
    where
      go : (b : Bool) → is_done (take_answer M N L room) ≡ b → plan_of (take_answer M N L room) (cond b (word M) 0) (cond b (word N) 0) ≡ plan_of (take_answer M N L room) (cond b M 0) (cond b N 0)
      go true e =
          let r = taken_range M N L room (eqb-true _ _ e) in
          ap (λ (x : ℕ). plan_of (take_answer M N L room) x (word N)) (word_small M max_frame r.frame_in_range (omega arith))
          ∙ ap (λ (x : ℕ). plan_of (take_answer M N L room) M x) (word_small N max_ports r.ports_in_range (omega arith))
      go false e = refl

  pub over_same : (buffer : List ℕ) → over_if_done (take_answer (word M) (word N) (in_words L) room) (in_words L) buffer ≡ over_if_done (take_answer M N L room) L buffer
  over_same buffer = ap (λ (a : Answer). over_if_done a (in_words L) buffer) (take_same M N L room) ∙ go (is_done (take_answer M N L room)) refl
    where
      go : (b : Bool) → is_done (take_answer M N L room) ≡ b → cond b (over (in_words L) buffer) buffer ≡ cond b (over L buffer) buffer
      go true e = ap (λ (l : List ℕ). over l buffer) (list_words M N L (taken_range M N L room (eqb-true _ _ e)))
      go false e = refl

drop_words : (n : ℕ) (ns : List ℕ) → drop n (in_words ns) ≡ in_words (drop n ns)
drop_words zero ns = refl
drop_words (suc n) [] = refl
drop_words (suc n) (x ∷ ns) = drop_words n ns

-- the numbers of a text, kept in 16 bits, are taken over as the numbers themselves
module _ (ns : List ℕ) where
  pub numbers_plan : (room : ℕ) → taken_plan (in_words ns) room ≡ taken_plan ns room
  unfolding taken_plan
  numbers_plan room =
      ap (λ (x : ℕ). plan_if_done (take_answer x (get_or (in_words ns) 1 0) (drop 2 (in_words ns)) room) x (get_or (in_words ns) 1 0)) (in_words_at ns 0)
      ∙ ap (λ (x : ℕ). plan_if_done (take_answer (word (get_or ns 0 0)) x (drop 2 (in_words ns)) room) (word (get_or ns 0 0)) x) (in_words_at ns 1)
      ∙ ap (λ (x : List ℕ). plan_if_done (take_answer (word (get_or ns 0 0)) (word (get_or ns 1 0)) x room) (word (get_or ns 0 0)) (word (get_or ns 1 0))) (drop_words 2 ns)
      ∙ plan_same (get_or ns 0 0) (get_or ns 1 0) (drop 2 ns) room

  pub numbers_over : (buffer : List ℕ) → taken_into (in_words ns) buffer ≡ taken_into ns buffer
  unfolding taken_into
  numbers_over buffer =
      ap (λ (x : ℕ). over_if_done (take_answer x (get_or (in_words ns) 1 0) (drop 2 (in_words ns)) (length buffer)) (drop 2 (in_words ns)) buffer) (in_words_at ns 0)
      ∙ ap (λ (x : ℕ). over_if_done (take_answer (word (get_or ns 0 0)) x (drop 2 (in_words ns)) (length buffer)) (drop 2 (in_words ns)) buffer) (in_words_at ns 1)
      ∙ ap (λ (x : List ℕ). over_if_done (take_answer (word (get_or ns 0 0)) (word (get_or ns 1 0)) x (length buffer)) x buffer) (drop_words 2 ns)
      ∙ over_same (get_or ns 0 0) (get_or ns 1 0) (drop 2 ns) (length buffer) buffer
