-- What a cycle takes of a message, and the loads before it, follow from the windows and from the messages down to it.
use Prim.Native.Nat.{ℕ, zero, suc, ◌+◌, ◌<◌}
use mathlib.Core.Path.{◌≡◌, refl}
use mathlib.Core.Bool.{Bool, not, cond, ◌&&◌}
use native.Mathlib.Omega.{arith}
use Rattle.cycles.specs.Cycle.{Network, size_of, path_of, no_room, takes, share, load_after}
use Rattle.cycles.specs.HouseRule.{LowerDoNotCount}

takes_same : (w w' : Network) (ready ready' : ℕ → Bool) (load load' : ℕ → ℕ) (i : ℕ)
    → w.windows ≡ w'.windows → size_of w i ≡ size_of w' i → path_of w i ≡ path_of w' i → ready i ≡ ready' i → ((l : ℕ) → load l ≡ load' l)
    → takes w ready load i ≡ takes w' ready' load' i
takes_same w w' ready ready' load load' i windows size path due loads = λ k. due k && not (no_room (windows k) (λ l. loads l k) (size k) (path k))

-- two networks that have the same windows, and the same messages above i
record SameAbove (i : ℕ) (w w' : Network) (ready ready' : ℕ → Bool) : Type 0 where
  windows : w.windows ≡ w'.windows
  sizes : (j : ℕ) → j < i → size_of w j ≡ size_of w' j
  paths : (j : ℕ) → j < i → path_of w j ≡ path_of w' j
  due : (j : ℕ) → j < i → ready j ≡ ready' j

-- have the same loads once those were looked at
loads_same : (i : ℕ) (w w' : Network) (ready ready' : ℕ → Bool) → SameAbove i w w' ready ready' → (l : ℕ) → load_after w ready i l ≡ load_after w' ready' i l
unfolding load_after
loads_same zero w w' ready ready' s l = refl
loads_same (suc i) w w' ready ready' s l =
    let size = s.sizes i (omega arith) in
    let path = s.paths i (omega arith) in
    let before : (l : ℕ) → load_after w ready i l ≡ load_after w' ready' i l = loads_same i w w' ready ready' (record {
      windows = s.windows;
      sizes = λ j u. s.sizes j (omega arith);
      paths = λ j u. s.paths j (omega arith);
      due = λ j u. s.due j (omega arith);
    }) in
    λ k. before l k + cond (takes_same w w' ready ready' (load_after w ready i) (load_after w' ready' i) i s.windows size path (s.due i (omega arith)) before k) (share (size k) (path k) l) 0

pub lower_do_not_count : LowerDoNotCount
lower_do_not_count i w w' ready ready' s due =
    takes_same w w' ready ready' (load_after w ready i) (load_after w' ready' i) i s.same_windows (s.same_sizes i (omega arith)) (s.same_paths i (omega arith)) (due i (omega arith))
    (loads_same i w w' ready ready'
    (record {
      windows = s.same_windows;
      sizes = λ j u. s.same_sizes j (omega arith);
      paths = λ j u. s.same_paths j (omega arith);
      due = λ j u. due j (omega arith);
    }))
