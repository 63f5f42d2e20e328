-- Delays: the proofs of what `specs/Delays.antt` states.
use Prim.Native.Nat.{ℕ, zero, suc, ◌+◌, ◌-◌, ◌*◌, ◌/◌, ◌≤◌, ◌<◌}
use mathlib.Core.Path.{◌≡◌, refl, sym, ◌∙◌, ap, subst}
use mathlib.Core.Logic.{◌↔◌, ◌⊎◌, inl, inr}
use mathlib.Core.Bool.{Bool, true, false, cond, true≢false}
use mathlib.Core.List.{List, [], ◌∷◌}
use native.Mathlib.Omega.{arith}
use native.Mathlib.Nat.{div-add-mod', mod-lt, le-div_iff_mul-le, mul_comm, mul-add, add-mul, suc-mul}
use borrow.Author.Tests.{ltb-true, ltb-false}
use lib.Dec.{T, ltb, le→leb, leb→le, lt→ltb}
use lib.ListN.{length, replicate}
use lib.IntN.{ℤ, pos, negsuc, suc_ℤ, neg_ℤ, ◌-ℤ◌, ◌*ℤ◌}
use lib.Signed.{◌≤ℤ◌, ◌<ℤ◌, mag}
use Rattle.answers.specs.declared.Answer.{Answer}
use Rattle.answers.specs.Numbers.{DONE, FRAME_OUT_OF_RANGE, LINKS_OUT_OF_RANGE, DEADLINE_OUT_OF_RANGE, DELAY_OUT_OF_RANGE}
use Rattle.answers.specs.Limits.{max_frame, max_links, max_delay, max_deadline, outside, Within}
use Rattle.answers.specs.Lowest.{lowest, IsLowest}
use Rattle.answers.specs.Sums.{sum}
use Rattle.answers.specs.Answers.{Rule, answer, refusal, done_with, ◌when◌, first}
use Rattle.answers.proofs.Ranges.{inside, within_test}
use Rattle.answers.proofs.First.{NoneHolds, lacks, first_none, lacked, named_exactly}
use Rattle.margins.specs.Margins.{bound, margin_of, room_of, floor_div, fit_of, cells_for, carried_bits, link_out_of_range, margin_rules, fit_rules, cells_rules, margin_answer, fit_answer, cells_answer}
use Rattle.margins.proofs.Bounds.{bound_at_most, common_bound}
use Rattle.margins.proofs.Times.{least_reaches, lower_fails, quotient_some}
use Rattle.demands.specs.Delays.{BoundOfOnes, InTimeIffRoom, RoundedDown, RoomRoundsDown, lowest_margin, highest_margin, MarginInRange, MarginEndsReached, Asked, NotOfALink, NamesLink, FitIsLeast, CellsAreLeast}

-- a difference of two numbers, by which is larger
Less : ℕ → ℕ → Type 0
Less a b = ((a < b) × (pos a -ℤ pos b ≡ negsuc (b - suc a))) ⊎ ((b ≤ a) × (pos a -ℤ pos b ≡ pos (a - b)))

less : (a b : ℕ) → Less a b
unfolding Less
less a zero = inr (omega arith, ap pos (omega arith))
less a (suc b) = go (ltb a (suc b)) refl
  where
    go : (t : Bool) → ltb a (suc b) ≡ t
        → ((a < suc b) × (cond t (negsuc (suc b - suc a)) (pos (a - suc b)) ≡ negsuc (suc b - suc a)))
        ⊎ ((suc b ≤ a) × (cond t (negsuc (suc b - suc a)) (pos (a - suc b)) ≡ pos (a - suc b)))
    go true e = inl (ltb-true a (suc b) e, refl)
    go false e = inr (ltb-false a (suc b) e, refl)

never : (h n : ℕ) → pos h ≤ℤ negsuc n → ⊥
never h n x = x.le

pub bound_of_ones : BoundOfOnes
bound_of_ones M h = omega (arith, common_bound M h 1, mul_comm h M)

-- h links of delay d take no more than what is left of the deadline exactly if they fit into it so many times
links_fit : (M h d H : ℕ) → 1 ≤ d → M ≤ H → (h ≤ (H - M) / (M + d)) ↔ (bound M (replicate h d) ≤ H)
links_fit M h d H some w =
    let law = le-div_iff_mul-le {k = M + d} {x = h} {y = H - M} (omega arith) in
    let all = common_bound M h d in
    (λ x. omega (arith, law.0 x, all, mul-add h M d), λ x. law.1 (omega (arith, all, mul-add h M d)))

pub in_time_iff_room : InTimeIffRoom
unfolding Less
in_time_iff_room M h d H some = go (less H (bound M (replicate h d))) (less H M)
  where
    margin : ℤ → Type 0
    margin z = pos 0 ≤ℤ z

    room : ℤ → Type 0
    room z = pos h ≤ℤ floor_div z (M + d)

    go : Less H (bound M (replicate h d)) → Less H M → (pos 0 ≤ℤ margin_of M (replicate h d) H) ↔ (pos h ≤ℤ room_of M d H)
    go (inl late) (inl short) =
        (λ x. absurd (never 0 (bound M (replicate h d) - suc H) (subst margin late.1 x)), λ x. absurd (never h ((M - suc H) / (M + d)) (subst room short.1 x)))
    go (inl late) (inr wide) = (
      λ x. absurd (never 0 (bound M (replicate h d) - suc H) (subst margin late.1 x)),
      λ x. absurd (omega (arith, (links_fit M h d H some wide.0).0 (leb→le h ((H - M) / (M + d)) (subst room wide.1 x).le), late.0)),
    )
    go (inr early) (inl short) = absurd (omega (arith, early.0, short.0, common_bound M h d, add-mul h 1 M))
    go (inr early) (inr wide) = (
      λ x. subst room (sym wide.1) (record { le = le→leb h ((H - M) / (M + d)) ((links_fit M h d H some wide.0).1 early.0) }),
      λ x. subst margin (sym early.1) (record { le = le→leb 0 (H - bound M (replicate h d)) (omega arith) }),
    )

-- a number that is not 0, taken below zero
negated : (n : ℕ) → 0 < n → neg_ℤ (pos n) ≡ negsuc (n - 1)
negated zero l = absurd (omega arith)
negated (suc n) l = ap negsuc (omega arith)

-- rounding down is rounding down, below zero too
floor_law : (z : ℤ) (d : ℕ) → 0 < d → RoundedDown z d (floor_div z d)
floor_law (pos a) d some =
    record {
      not_above = record { le = le→leb (a / d * d) a (omega (arith, div-add-mod' a d)) };
      nearest = record { lt = lt→ltb a (suc (a / d) * d) (omega (arith, div-add-mod' a d, mod-lt a some, suc-mul (a / d) d)) };
    }
floor_law (negsuc a) d some = record { not_above = above; nearest = near (a / d) refl }
  where
    over : a < suc (a / d) * d
    over = omega (arith, div-add-mod' a d, mod-lt a some, suc-mul (a / d) d)

    above : (negsuc (a / d) *ℤ pos d) ≤ℤ negsuc a
    above =
        subst (λ (z : ℤ). z ≤ℤ negsuc a) (sym (negated (suc (a / d) * d) (omega (arith, over))))
        (record { le = le→leb a (suc (a / d) * d - 1) (omega (arith, over)) })

    near : (q : ℕ) → a / d ≡ q → negsuc a <ℤ (suc_ℤ (negsuc q) *ℤ pos d)
    near zero e = record { lt = tt }
    near (suc q) e =
        let reach : suc q * d ≤ a = omega (arith, div-add-mod' a d, ap (λ (x : ℕ). x * d) e) in
        let some_of : 0 < suc q * d = omega (arith, suc-mul q d) in
        subst (λ (z : ℤ). negsuc a <ℤ z) (sym (negated (suc q * d) some_of)) (record { lt = lt→ltb (suc q * d - 1) a (omega arith) })

pub room_rounds_down : RoomRoundsDown
room_rounds_down M d H some = floor_law (pos H -ℤ pos M) (M + d) (omega arith)

-- an answer that is done was refused by none of the rules
done_rules : (rs : List Rule) (d m : ℤ) → T (lacks DONE rs) → first rs (done_with d) ≡ done_with m → NoneHolds rs × (d ≡ m)
done_rules rs d m t e =
    let none = (lacked DONE rs (done_with d) t (ap (λ (a : Answer). a.number) e)).0 in
    (none, ap (λ (a : Answer). a.detail) (sym (first_none rs (done_with d) none) ∙ e))

pub margin_in_range : MarginInRange
unfolding margin_answer Less
margin_in_range M D H m e = subst (λ (z : ℤ). (lowest_margin ≤ℤ z) × (z ≤ℤ highest_margin)) known.1 (go (less H (bound M D)))
  where
    known : NoneHolds (margin_rules M D H) × (margin_of M D H ≡ m)
    known = done_rules (margin_rules M D H) (margin_of M D H) m tt e

    frames : Within 1 max_frame M
    frames = inside known.0.0

    links : Within 0 max_links (length D)
    links = inside known.0.1.0

    deadlines : Within 0 max_deadline H
    deadlines = inside known.0.1.1.0

    most : bound M D ≤ (max_links + 1) * max_frame + max_links * max_delay
    most = bound_at_most M D frames.at_most links.at_most known.0.1.1.1.0

    go : Less H (bound M D) → (lowest_margin ≤ℤ margin_of M D H) × (margin_of M D H ≤ℤ highest_margin)
    go (inl late) =
        subst (λ (z : ℤ). (lowest_margin ≤ℤ z) × (z ≤ℤ highest_margin)) (sym late.1)
        (record { le = le→leb (bound M D - suc H) _ (omega (arith, most)) }, record { le = tt })
    go (inr early) =
        subst (λ (z : ℤ). (lowest_margin ≤ℤ z) × (z ≤ℤ highest_margin)) (sym early.1)
        (record { le = tt }, record { le = le→leb (H - bound M D) _ (omega (arith, frames, deadlines, add-mul (length D) 1 M)) })

pub margin_ends_reached : MarginEndsReached
unfolding margin_answer lowest sum
margin_ends_reached = (refl, refl)

-- what refusal 25 tests of a link is what it says of it
outside_says : (D : List ℕ) (link : ℕ) → link_out_of_range D link ≡ true → NotOfALink D link
outside_says D link e w = true≢false (sym e ∙ within_test w)

outside_means : (D : List ℕ) (link : ℕ) → NotOfALink D link → link_out_of_range D link ≡ true
outside_means D link h = go (link_out_of_range D link) refl
  where
    go : (b : Bool) → link_out_of_range D link ≡ b → b ≡ true
    go true e = refl
    go false e = absurd (h (inside e))

pub names_link : NamesLink
unfolding margin_answer
names_link M D H k = (λ e. let h = law.0 e in (asked h.0, h.1), λ h. law.1 (not_refused h.0, h.1))
  where
    before : List Rule
    before =
        (refusal FRAME_OUT_OF_RANGE when outside 1 max_frame M)
        ∷ (refusal LINKS_OUT_OF_RANGE when outside 0 max_links (length D))
        ∷ (refusal DEADLINE_OUT_OF_RANGE when outside 0 max_deadline H)
        ∷ []

    asked : NoneHolds before → Asked M D H
    asked h = record { frame_in_range = inside h.0; links_in_range = inside h.1.0; deadline_in_range = inside h.1.1.0 }

    not_refused : Asked M D H → NoneHolds before
    not_refused a = (within_test a.frame_in_range, (within_test a.links_in_range, (within_test a.deadline_in_range, tt)))

    law : (margin_answer M D H ≡ answer DELAY_OUT_OF_RANGE (pos k)) ↔ (NoneHolds before × IsLowest 0 (length D) (NotOfALink D) k)
    law =
        named_exactly DELAY_OUT_OF_RANGE 0 (length D) (link_out_of_range D) (NotOfALink D) (λ j a u. outside_says D j) (λ j a u. outside_means D j)
        before [] (done_with (margin_of M D H)) k tt tt tt

pub fit_is_least : FitIsLeast
unfolding fit_answer
fit_is_least M P C c e =
    record {
      enough = subst (λ (x : ℕ). C ≤ x * (P / M)) same (least_reaches (P / M) C some);
      no_less = λ b l. lower_fails (P / M) C some b (omega (arith, same));
    }
  where
    known : NoneHolds (fit_rules M P C) × (pos (fit_of M P C) ≡ pos c)
    known = done_rules (fit_rules M P C) (pos (fit_of M P C)) (pos c) tt e

    same : fit_of M P C ≡ c
    same = ap mag known.1

    some : 0 < P / M
    some = quotient_some P M (inside known.0.0).at_least (inside known.0.1.0).at_least

pub cells_are_least : CellsAreLeast
unfolding cells_answer
cells_are_least bits c e =
    record {
      enough = subst (λ (x : ℕ). bits ≤ x * carried_bits) same (least_reaches carried_bits bits (omega arith));
      no_less = λ b l. lower_fails carried_bits bits (omega arith) b (omega (arith, same));
    }
  where
    known : NoneHolds (cells_rules bits) × (pos (cells_for bits) ≡ pos c)
    known = done_rules (cells_rules bits) (pos (cells_for bits)) (pos c) tt e

    same : cells_for bits ≡ c
    same = ap mag known.1
