-- What stands in a lent buffer once its first numbers were stored.
use Rattle.std.proofs.Common.{ℕ, ◌-◌, ◌≡◌, ◌≤◌, ◌<◌, List, ◌++◌, length, get_or, drop, arith, ◌∙◌, ap, length-append, length-drop}
use Rattle.std.proofs.lemmas.List.{get_or_append_left, get_or-append_right, get_or-drop}
use Rattle.answers.specs.Buffers.{written}
use Rattle.answers.proofs.Buffers.{written_is}

pub front_written : (f : ℕ → ℕ) (A B : List ℕ) (m n : ℕ) → m ≡ n → length A ≡ m → n ≤ length B → ((k : ℕ) → k < n → get_or A k 0 ≡ f k) → A ++ drop m B ≡ written n f B
front_written f A B m n same all room here =
    written_is f B n (A ++ drop m B) room (omega (arith, length-append A (drop m B), length-drop m B))
    (λ k u. get_or_append_left A (drop m B) 0 k (omega arith) ∙ here k u)
    (λ k u. get_or-append_right A (drop m B) m k 0 all (omega arith) ∙ get_or-drop m B (k - m) 0 ∙ ap (λ (i : ℕ). get_or B i 0) (omega arith))
