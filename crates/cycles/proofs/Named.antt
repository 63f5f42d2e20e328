-- Refusals 30 and 31: what is tested of a message is what is said of it, so each names the lowest such message.
use Prim.Native.Nat.{ℕ, ◌+◌, ◌-◌, ◌<◌}
use mathlib.Core.Path.{◌≡◌, refl}
use mathlib.Core.Logic.{◌↔◌}
use mathlib.Core.Bool.{Bool, true, false, not, ◌||◌}
use mathlib.Core.List.{[], ◌∷◌}
use native.Mathlib.Omega.{arith}
use borrow.Author.Tests.{eqb-true, eq-eqb, ltb-true, le-ltb}
use lib.ListN.{length}
use lib.IntN.{pos}
use lib.Dec.{eqb}
use Rattle.answers.specs.Numbers.{BUFFER_TOO_SMALL, MESSAGE_MISSHAPEN, MESSAGE_ABOVE_WINDOW, CYCLES_MISSIZED}
use Rattle.answers.specs.Limits.{max_cycle_links, max_messages}
use Rattle.answers.specs.Lowest.{lowest, IsLowest}
use Rattle.answers.specs.Answers.{Rule, answer, refusal, done_with, ◌when◌, naming_lowest}
use Rattle.answers.proofs.First.{named_exactly, not_named, none_named}
use Rattle.answers.proofs.Lowest.{lowest_found, somewhere_test}
use Rattle.answers.proofs.Orders.{or_true}
use Rattle.cycles.specs.Cycle.{Network, links, messages, size_of, path_of, in_set}
use Rattle.cycles.specs.Judging.{network_missized, link_missing, message_misshapen, message_above_window, network_answer}
use Rattle.cycles.specs.Refusals.{Sized, Misshapen, empty_set, no_such_link, no_size, AboveWindow, NamesMisshapen, NamesAboveWindow}
use Rattle.cycles.proofs.Loads.{no_room_on, room_on}
use Rattle.cycles.proofs.Judged.{sized}

second_or : (a b : Bool) → b ≡ true → (a || b) ≡ true
second_or true b e = refl
second_or false b e = e

module _ (w : Network) where
  module _ (i : ℕ) where
    -- the link that is not there
    missing_link : link_missing (links w) (path_of w i) ≡ true → Misshapen w i
    missing_link e =
        let l = lowest (links w) (max_cycle_links - links w) (in_set (path_of w i)) in
        let found = lowest_found (links w) (max_cycle_links - links w) (in_set (path_of w i)) in
        let u : l < links w + (max_cycle_links - links w) = ltb-true l (links w + (max_cycle_links - links w)) e in
        no_such_link l found.low (omega (arith, found.low, u)) (found.there u)

    misshapen_says : message_misshapen w i ≡ true → Misshapen w i
    misshapen_says e = go (eqb (path_of w i) 0) refl (link_missing (links w) (path_of w i)) refl e
      where
        go : (a : Bool) → eqb (path_of w i) 0 ≡ a → (b : Bool) → link_missing (links w) (path_of w i) ≡ b → (a || (b || eqb (size_of w i) 0)) ≡ true → Misshapen w i
        go true f b g h = empty_set (eqb-true (path_of w i) 0 f)
        go false f true g h = missing_link g
        go false f false g h = no_size (eqb-true (size_of w i) 0 h)

    misshapen_means : Misshapen w i → message_misshapen w i ≡ true
    misshapen_means (empty_set e) = or_true _ refl (eq-eqb (path_of w i) 0 e)
    misshapen_means (no_such_link l a b on) =
        second_or (eqb (path_of w i) 0) _ (or_true _ refl (somewhere_test (links w) (max_cycle_links - links w) (in_set (path_of w i)) l a (omega arith) on))
    misshapen_means (no_size e) =
        second_or (eqb (path_of w i) 0) _ (second_or (link_missing (links w) (path_of w i)) _ (eq-eqb (size_of w i) 0 e))

    above_says : message_above_window w i ≡ true → AboveWindow w i
    above_says e =
        let full = no_room_on w.windows (λ l. 0) (size_of w i) (path_of w i) e in
        record { link = full.0; there = full.1; on_that_path = full.2; above = omega (arith, full.3) }

    above_means : AboveWindow w i → message_above_window w i ≡ true
    above_means a = go (message_above_window w i) refl
      where
        go : (b : Bool) → message_above_window w i ≡ b → b ≡ true
        go true e = refl
        go false e = absurd (omega (arith, a.above, room_on w.windows (λ l. 0) (size_of w i) (path_of w i) e a.link a.there a.on_that_path))

  module _ (other short : Bool) (k : ℕ) where
    abbrev sizes_due : Rule
    sizes_due = refusal CYCLES_MISSIZED when (network_missized w || other)

    not_due : Sized w other → sizes_due.holds ≡ false
    not_due s =
        λ j. (le-ltb max_cycle_links (links w) s.few_links j || (le-ltb max_messages (messages w) s.few_messages j || not (eq-eqb (length w.paths) (messages w) s.as_many_sets j))) || s.others_sized j

    misshapen_named : (network_answer w other short ≡ answer MESSAGE_MISSHAPEN (pos k)) ↔ (Sized w other × IsLowest 0 (messages w) (Misshapen w) k)
    unfolding network_answer
    misshapen_named =
        let law = named_exactly MESSAGE_MISSHAPEN 0 (messages w) (message_misshapen w) (Misshapen w) (λ i a u. misshapen_says i) (λ i a u. misshapen_means i)
        (sizes_due ∷ []) (naming_lowest MESSAGE_ABOVE_WINDOW 0 (messages w) (message_above_window w) ∷ (refusal BUFFER_TOO_SMALL when short) ∷ []) (done_with (pos 0)) k tt tt tt in
        (λ e. let h = law.0 e in (sized w other short h.0.0, h.1), λ h. law.1 ((not_due h.0, tt), h.1))

    above_named : (network_answer w other short ≡ answer MESSAGE_ABOVE_WINDOW (pos k))
        ↔ ((Sized w other × ((i : ℕ) → i < messages w → Misshapen w i → ⊥)) × IsLowest 0 (messages w) (AboveWindow w) k)
    unfolding network_answer
    above_named =
        let law = named_exactly MESSAGE_ABOVE_WINDOW 0 (messages w) (message_above_window w) (AboveWindow w) (λ i a u. above_says i) (λ i a u. above_means i)
        (sizes_due ∷ naming_lowest MESSAGE_MISSHAPEN 0 (messages w) (message_misshapen w) ∷ []) ((refusal BUFFER_TOO_SMALL when short) ∷ []) (done_with (pos 0)) k tt tt tt in
        let out = not_named MESSAGE_MISSHAPEN 0 (messages w) (message_misshapen w) (Misshapen w) (λ i a u. misshapen_says i) (λ i a u. misshapen_means i) in
        let back = none_named MESSAGE_MISSHAPEN 0 (messages w) (message_misshapen w) (Misshapen w) (λ i a u. misshapen_says i) (λ i a u. misshapen_means i) in (
          λ e. let h = law.0 e in ((sized w other short h.0.0, λ i u p. out h.0.1.0 i (omega arith) (omega arith) p), h.1),
          λ h. law.1 ((not_due h.0.0, (back (λ i a u p. h.0.1 i (omega arith) p), tt)), h.1),
        )

pub names_misshapen : NamesMisshapen
names_misshapen w other short k = misshapen_named w other short k

pub names_above_window : NamesAboveWindow
names_above_window w other short k = above_named w other short k
