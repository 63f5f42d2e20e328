-- The line of a row has room: a row is no longer than the frame, and an entry is a byte.
use Prim.Native.Nat.{ℕ, ◌+◌, ◌*◌, ◌≤◌, ◌<◌}
use mathlib.Core.Path.{◌≡◌, sym, subst}
use mathlib.Core.List.{List}
use native.Mathlib.Omega.{arith}
use lib.ListN.{length, get_or}
use Rattle.answers.specs.Limits.{max_frame}
use Rattle.tables.specs.Row.{row_part}
use Rattle.tables.proofs.Rows.{part_short, part_below}
use Rattle.plan_text.specs.Lines.{out_line}
use Rattle.plan_text.proofs.RowLines.{row_short}

pub row_line : (row : List ℕ) (M N : ℕ) (T : List ℕ) (j : ℕ) → row ≡ row_part M N T j → M ≤ max_frame → ((i : ℕ) → get_or T i 0 < 256) → length (out_line row) ≤ 4 * max_frame + 5
row_line row M N T j e m h =
    subst (λ (r : List ℕ). length (out_line r) ≤ 4 * max_frame + 5) (sym e)
    (omega (arith, row_short (row_part M N T j) (part_below M N T j 256 (omega arith) h), part_short M N T j))
