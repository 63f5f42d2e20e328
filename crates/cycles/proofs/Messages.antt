-- One message more is looked at: what the loop over the messages adds. X is the loads so far.
use Prim.Native.Nat.{ℕ, ◌+◌, ◌≤◌, ◌<◌}
use mathlib.Core.Path.{◌≡◌, refl, sym, ◌∙◌, ap}
use mathlib.Core.Bool.{Bool, true, false, not, cond, ◌&&◌}
use mathlib.Core.List.{List}
use native.Mathlib.Omega.{arith}
use native.Mathlib.Numerals.{add-one}
use lib.ListN.{length, get_or, set as list_set, length-set, replicate, take}
use lib.Dec.{ltb}
use lib.Seq.{get_or-set_same, get_or-set_other}
use borrow.Author.Count.{below_more}
use Rattle.std.proofs.lemmas.List.{get_or-replicate, get_or-take, length-take}
use Rattle.answers.specs.Limits.{max_messages}
use Rattle.answers.proofs.Lowest.{lowest_agree}
use Rattle.cycles.specs.Cycle.{Network, links, size_of, path_of, in_set, too_much, no_room, share, load_after, taken}
use Rattle.cycles.specs.Steps.{load_in, AllFit}
use Rattle.cycles.proofs.Loads.{load_none, load_step, room_on}

-- where there is room, the loads stay numbers of 16 bits, as the windows are
pub all_fit : (W X : List ℕ) (size set : ℕ) → ((l : ℕ) → get_or W l 0 < 65536) → ((l : ℕ) → load_in X l < 65536)
    → no_room W (load_in X) size set ≡ false → AllFit size set (length W) X
all_fit W X size set windows loads e l u = go (in_set set l) refl
  where
    go : (b : Bool) → in_set set l ≡ b → load_in X l + cond b size 0 < 65536
    go true on = omega (arith, room_on W (load_in X) size set e l u on, windows l)
    go false on = omega (arith, loads l)

-- the same of the part of the loads that is lent on
pub part_fits : (W X : List ℕ) (size set : ℕ) → ((l : ℕ) → get_or W l 0 < 65536) → ((l : ℕ) → get_or X l 0 < 65536)
    → no_room W (load_in X) size set ≡ false → AllFit size set (length (take (length W) X)) (take (length W) X)
part_fits W X size set windows loads e l u =
    let there : l < length W = omega (arith, length-take (length W) X) in
    rw (get_or-take (length W) X l 0 there) (all_fit W X size set windows loads e l there)

-- only the loads of the links count
pub no_room_agrees : (W : List ℕ) (f g : ℕ → ℕ) (size set : ℕ) → ((l : ℕ) → l < length W → f l ≡ g l) → no_room W f size set ≡ no_room W g size set
no_room_agrees W f g size set h =
    ap (λ (x : ℕ). ltb x (0 + length W))
    (lowest_agree 0 (length W) (too_much W f size set) (too_much W g size set) (λ l a u. ap (λ (x : ℕ). in_set set l && ltb (get_or W l 0) (x + size)) (h l (omega arith))))

-- the loads of a cycle that took nothing
pub nothing_loaded : (W : List ℕ) (n size set : ℕ) → length W ≤ n → no_room W (load_in (replicate n 0)) size set ≡ no_room W (λ l. 0) size set
nothing_loaded W n size set few = no_room_agrees W (load_in (replicate n 0)) (λ l. 0) size set (λ l u. get_or-replicate n l 0 0 (omega arith))

-- the first i messages were looked at: T tells which of them are taken, X is what they put on the links
pub record LookedAt (w : Network) (ready : ℕ → Bool) (T : List Bool) (X : List ℕ) (i : ℕ) : Type 0 where
  pub taken_all : length T ≡ max_messages
  pub taken_of : (j : ℕ) → j < i → get_or T j false ≡ taken w ready j
  pub load_at : (l : ℕ) → l < links w → load_in X l ≡ load_after w ready i l

pub none_looked_at : (w : Network) (ready : ℕ → Bool) (T : List Bool) (n : ℕ) → length T ≡ max_messages → links w ≤ n → LookedAt w ready T (replicate n 0) 0
none_looked_at w ready T n all few =
    record { taken_all = all; taken_of = λ j u. absurd (omega arith); load_at = λ l u. get_or-replicate n l 0 0 (omega arith) ∙ sym (load_none w ready l) }

-- one more was: r is whether it was ready, t whether it was taken
module _ (w : Network) (ready : ℕ → Bool) (T : List Bool) (X X' : List ℕ) (i size set : ℕ) (r t : Bool) where
  pub one_looked_at : LookedAt w ready T X i → i < max_messages → r ≡ ready i → size ≡ size_of w i → set ≡ path_of w i
      → t ≡ (r && not (no_room w.windows (load_in X) size set))
      → ((l : ℕ) → l < links w → load_in X' l ≡ load_in X l + cond t (share size set l) 0)
      → LookedAt w ready (list_set T i t) X' (i + 1)
  one_looked_at was room due same_size same_path takes adds =
      record {
        taken_all = length-set T i t ∙ was.taken_all;
        taken_of = below_more _ i (λ j u. get_or-set_other T i j t false (λ e. omega arith) ∙ was.taken_of j u) (get_or-set_same T i t false (omega (arith, was.taken_all)) ∙ took);
        load_at = λ l u. adds l u ∙ (λ k. was.load_at l u k + cond (took k) (share (same_size k) (same_path k) l) 0) ∙ sym (load_step w ready i l) ∙ ap (λ (n : ℕ). load_after w ready n l) (sym (add-one i));
      }
    where
      took : t ≡ taken w ready i
      took =
          takes
          ∙ (λ k. due k && not (no_room w.windows (load_in X) (same_size k) (same_path k)))
          ∙ ap (λ (b : Bool). ready i && not b) (no_room_agrees w.windows (load_in X) (load_after w ready i) (size_of w i) (path_of w i) was.load_at)
