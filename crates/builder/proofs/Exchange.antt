-- The mathematics of the exchange, on functions: u and v are the inputs that each row holds at slots p and q, w whether a row is seen.
-- A row that holds nothing there holds input 0.
use Prim.Native.Nat.{ℕ}
use mathlib.Core.Path.{◌≡◌, sym, ◌∙◌, ap}
use mathlib.Core.Bool.{Bool, false}
use native.Mathlib.Decide.{ℕ_discrete}

-- no two rows hold one input
abbrev pub Clean : (ℕ → ℕ) → Type 0
Clean u = (a b : ℕ) → (u a ≡ 0 → ⊥) → u a ≡ u b → a ≡ b

-- no two rows but r do
abbrev pub CleanBut : ℕ → (ℕ → ℕ) → Type 0
CleanBut r u = (a b : ℕ) → (a ≡ r → ⊥) → (b ≡ r → ⊥) → (u a ≡ 0 → ⊥) → u a ≡ u b → a ≡ b

-- no row holds input z
abbrev pub Free : (ℕ → ℕ) → ℕ → Type 0
Free v z = (a : ℕ) → v a ≡ z → ⊥

-- what holds before row r is swapped
pub record Ready (u v : ℕ → ℕ) (w : ℕ → Bool) (r : ℕ) : Type 0 where
  pub fresh : w r ≡ false
  pub p_clean : CleanBut r u
  pub q_clean : Clean v
  -- the input in the way stands nowhere at q
  pub free_at_q : (u r ≡ 0 → ⊥) → Free v (u r)
  -- any other input that no row seen has at q, no row seen has at p
  pub paired : (z : ℕ) → (z ≡ 0 → ⊥) → (u r ≡ z → ⊥) → ((b : ℕ) → (w b ≡ false → ⊥) → v b ≡ z → ⊥) → (a : ℕ) → (w a ≡ false → ⊥) → u a ≡ z → ⊥

-- row r has exchanged what it holds at p and at q
pub record RowSwapped (u v u' v' : ℕ → ℕ) (r : ℕ) : Type 0 where
  pub at_p : u' r ≡ v r
  pub at_q : v' r ≡ u r
  pub else_p : (a : ℕ) → (a ≡ r → ⊥) → u' a ≡ u a
  pub else_q : (a : ℕ) → (a ≡ r → ⊥) → v' a ≡ v a

-- row r is marked
pub record RowMarked (w w' : ℕ → Bool) (r : ℕ) : Type 0 where
  pub here : w' r ≡ false → ⊥
  pub elsewhere : (a : ℕ) → (a ≡ r → ⊥) → w' a ≡ w a

module _ (u v u' v' : ℕ → ℕ) (w w' : ℕ → Bool) (r : ℕ) (ready : Ready u v w r) (swap : RowSwapped u v u' v' r) (mark : RowMarked w w' r) where
  -- what came to p was not in the way
  came_new : (u' r ≡ 0 → ⊥) → u r ≡ u' r → ⊥
  came_new n e = ready.free_at_q (λ z. n (sym e ∙ z)) r (sym swap.at_p ∙ sym e)

  -- it stands at q no longer
  pub came_free : (u' r ≡ 0 → ⊥) → Free v' (u' r)
  came_free n a e = go (ℕ_discrete a r)
    where
      go : Dec (a ≡ r) → ⊥
      go (yes i) = came_new n (sym swap.at_q ∙ sym (ap v' i) ∙ e)
      go (no d) = d (ready.q_clean a r (λ z. n (sym e ∙ swap.else_q a d ∙ z)) (sym (swap.else_q a d) ∙ e ∙ swap.at_p))

  pub q_clean_after : Clean v'
  q_clean_after a b n e = go (ℕ_discrete a r) (ℕ_discrete b r)
    where
      moved : (x : ℕ) → (x ≡ r → ⊥) → (v' r ≡ 0 → ⊥) → v' x ≡ v' r → ⊥
      moved x d m f = ready.free_at_q (λ z. m (swap.at_q ∙ z)) x (sym (swap.else_q x d) ∙ f ∙ swap.at_q)

      go : Dec (a ≡ r) → Dec (b ≡ r) → a ≡ b
      go (yes i) (yes j) = i ∙ sym j
      go (yes i) (no d) = absurd (moved b d (λ z. n (ap v' i ∙ z)) (sym e ∙ ap v' i))
      go (no d) (yes j) = absurd (moved a d (λ z. n (e ∙ ap v' j ∙ z)) (e ∙ ap v' j))
      go (no d) (no d') = ready.q_clean a b (λ z. n (swap.else_q a d ∙ z)) (sym (swap.else_q a d) ∙ e ∙ swap.else_q b d')

  p_clean_but : CleanBut r u'
  p_clean_but a b d d' n e = ready.p_clean a b d d' (λ z. n (swap.else_p a d ∙ z)) (sym (swap.else_p a d) ∙ e ∙ swap.else_p b d')

  -- no row seen before holds what came to p
  unseen_next : (u' r ≡ 0 → ⊥) → (a : ℕ) → (a ≡ r → ⊥) → (w a ≡ false → ⊥) → u' a ≡ u' r → ⊥
  unseen_next n a d s e =
      ready.paired (u' r) n (came_new n)
      (λ b t f. t (ap w (ready.q_clean b r (λ z. n (sym f ∙ z)) (f ∙ swap.at_p)) ∙ ready.fresh))
      a s (sym (swap.else_p a d) ∙ e)

  -- where what came to p leads to no unseen row, p is clean
  pub p_clean_after : ((u' r ≡ 0 → ⊥) → (a : ℕ) → w' a ≡ false → u' a ≡ u' r → ⊥) → Clean u'
  p_clean_after stop a b n e = go (ℕ_discrete a r) (ℕ_discrete b r)
    where
      alone : (x : ℕ) → (x ≡ r → ⊥) → (u' r ≡ 0 → ⊥) → u' x ≡ u' r → ⊥
      alone x d m f = unseen_next m x d (λ z. stop m x (mark.elsewhere x d ∙ z) f) f

      go : Dec (a ≡ r) → Dec (b ≡ r) → a ≡ b
      go (yes i) (yes j) = i ∙ sym j
      go (yes i) (no d) = absurd (alone b d (λ z. n (ap u' i ∙ z)) (sym e ∙ ap u' i))
      go (no d) (yes j) = absurd (alone a d (λ z. n (e ∙ ap u' j ∙ z)) (e ∙ ap u' j))
      go (no d) (no d') = p_clean_but a b d d' n e

  -- where it leads to an unseen row, that row is the only one, and all holds again there
  pub ready_next : (t : ℕ) → w' t ≡ false → (u' r ≡ 0 → ⊥) → u' t ≡ u' r → Ready u' v' w' t
  ready_next t f n e = record { fresh = f; p_clean = one_row; q_clean = q_clean_after; free_at_q = λ _ a x. came_free n a (x ∙ e); paired = pairs }
    where
      other : t ≡ r → ⊥
      other i = mark.here (sym (ap w' i) ∙ f)

      one_row : CleanBut t u'
      one_row a b d d' m x = go (ℕ_discrete a r) (ℕ_discrete b r)
        where
          only : (y : ℕ) → (y ≡ t → ⊥) → (y ≡ r → ⊥) → u' y ≡ u' r → ⊥
          only y d₁ d₂ g = d₁ (p_clean_but y t d₂ other (λ z. n (sym g ∙ z)) (g ∙ sym e))

          go : Dec (a ≡ r) → Dec (b ≡ r) → a ≡ b
          go (yes i) (yes j) = i ∙ sym j
          go (yes i) (no c) = absurd (only b d' c (sym x ∙ ap u' i))
          go (no c) (yes j) = absurd (only a d c (x ∙ ap u' j))
          go (no c) (no c') = p_clean_but a b c c' m x

      pairs : (z : ℕ) → (z ≡ 0 → ⊥) → (u' t ≡ z → ⊥) → ((b : ℕ) → (w' b ≡ false → ⊥) → v' b ≡ z → ⊥) → (a : ℕ) → (w' a ≡ false → ⊥) → u' a ≡ z → ⊥
      pairs z m o g a s x = go (ℕ_discrete a r)
        where
          seen_before : (b : ℕ) → (w b ≡ false → ⊥) → v b ≡ z → ⊥
          seen_before b k h = at (ℕ_discrete b r)
            where
              at : Dec (b ≡ r) → ⊥
              at (yes i) = k (ap w i ∙ ready.fresh)
              at (no c) = g b (λ y. k (sym (mark.elsewhere b c) ∙ y)) (swap.else_q b c ∙ h)

          go : Dec (a ≡ r) → ⊥
          go (yes i) = o (e ∙ sym (ap u' i) ∙ x)
          go (no c) =
              ready.paired z m (λ y. g r mark.here (swap.at_q ∙ y)) seen_before a (λ y. s (mark.elsewhere a c ∙ y)) (sym (swap.else_p a c) ∙ x)

  -- an input that was free at q, and is not the one in the way, is free at q after
  pub free_after : (z : ℕ) → Free v z → (u r ≡ z → ⊥) → Free v' z
  free_after z f d a e = go (ℕ_discrete a r)
    where
      go : Dec (a ≡ r) → ⊥
      go (yes i) = d (sym swap.at_q ∙ sym (ap v' i) ∙ e)
      go (no c) = f a (sym (swap.else_q a c) ∙ e)
