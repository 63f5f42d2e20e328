-- The scan of a text: what has been read and kept so far, and what is left, make up what the whole text holds.
use Rattle.std.proofs.Common.{ℕ, suc, min, ◌+◌, ◌≤◌, ◌<◌, ◌≡◌, refl, sym, ◌∙◌, ap, Bool, true, false, cond, ◌&&◌, List, [], ◌∷◌, ◌++◌, length, get_or, drop, append_assoc, append-nil, add-zero, Ok, Err, arith}
use Rattle.std.proofs.lemmas.List.{drop_more}
use borrow.Author.Tests.{eq-eqb, ne_eqb}
use lib.Dec.{eqb}
use lib.ListN.{length-append}
use lib.Seq.{drop-length}
use Rattle.answers.specs.declared.Refusal.TheVariants.{TextNotOfForm}
use Rattle.plan_text.specs.declared.reader.Reader.{Reader}
use Rattle.plan_text.specs.Reading.{start, value_of, takes, past, ends_number, lived, past_all, numbers_in, may_end, is_of_form}
use Rattle.plan_text.specs.Plans.{max_word, in_words, scanned}

pub record Going (text numbers : List ℕ) (r : Reader) (at : ℕ) : Type 0 where
  pub few : length numbers ≤ at
  pub lives : lived start text ≡ at + lived r (drop at text)
  pub stands : past_all start text ≡ past_all r (drop at text)
  pub kept : in_words (numbers_in start text) ≡ numbers ++ in_words (numbers_in r (drop at text))

module _ {text numbers : List ℕ} {r : Reader} {at : ℕ} (g : Going text numbers r at) where
  module _ (u : at < length text) where
    b : ℕ
    b = get_or text at 0

    rest : List ℕ
    rest = drop (at + 1) text

    ahead : drop at text ≡ b ∷ rest
    unfolding b rest
    ahead = drop_more text at 0 u

    -- the text dies at the first byte that is not taken
    pub dies : takes r (get_or text at 0) ≡ false → Err (TextNotOfForm at) ≡ scanned text
    unfolding b rest lived is_of_form
    dies e =
        let here : lived start text ≡ at =
        g.lives ∙ ap (λ (t : List ℕ). at + lived r t) ahead ∙ ap (λ (k : Bool). at + cond k (suc (lived (past r b) rest)) 0) e ∙ add-zero at in
        let off : (eqb (lived start text) (length text) && may_end (past_all start text)) ≡ false =
        ap (λ (k : Bool). k && may_end (past_all start text)) (ne_eqb (lived start text) (length text) (λ x. omega arith)) in
        rw (off, here) refl

    module _ (e : takes r (get_or text at 0) ≡ true) where
      lives_on : lived start text ≡ at + 1 + lived (past r b) rest
      unfolding b rest lived
      lives_on = g.lives ∙ ap (λ (t : List ℕ). at + lived r t) ahead ∙ ap (λ (k : Bool). at + cond k (suc (lived (past r b) rest)) 0) e ∙ omega arith

      stands_on : past_all start text ≡ past_all (past r b) rest
      unfolding b rest past_all
      stands_on = g.stands ∙ ap (λ (t : List ℕ). past_all r t) ahead

      keeps : (k : Bool) → ends_number r b ≡ k
          → in_words (numbers_in start text) ≡ numbers ++ in_words (cond k (value_of r ∷ numbers_in (past r b) rest) (numbers_in (past r b) rest))
      unfolding b rest numbers_in
      keeps k h =
          g.kept
          ∙ ap (λ (t : List ℕ). numbers ++ in_words (numbers_in r t)) ahead
          ∙ ap (λ (x : Bool). numbers ++ in_words (cond x (value_of r ∷ numbers_in (past r b) rest) (numbers_in (past r b) rest))) h

      -- a byte that ends a number, and one that does not
      pub one_more : ends_number r (get_or text at 0) ≡ true → Going text (numbers ++ min (value_of r) max_word ∷ []) (past r (get_or text at 0)) (at + 1)
      unfolding b rest
      one_more h =
          record {
            few = omega (arith, g.few, length-append numbers (min (value_of r) max_word ∷ []));
            lives = lives_on;
            stands = stands_on;
            kept = keeps true h ∙ sym (append_assoc numbers (min (value_of r) max_word ∷ []) (in_words (numbers_in (past r b) rest)));
          }

      pub none_more : ends_number r (get_or text at 0) ≡ false → Going text numbers (past r (get_or text at 0)) (at + 1)
      unfolding b rest
      none_more h = record { few = omega (arith, g.few); lives = lives_on; stands = stands_on; kept = keeps false h }

  -- behind the last byte it is of the form exactly if it may end there
  module _ (all : at ≡ length text) where
    none_left : drop at text ≡ []
    none_left = ap (λ (k : ℕ). drop k text) all ∙ drop-length text

    lived_all : lived start text ≡ length text
    unfolding lived
    lived_all = g.lives ∙ ap (λ (t : List ℕ). at + lived r t) none_left ∙ add-zero at ∙ all

    form_is : is_of_form text ≡ may_end r
    unfolding is_of_form past_all
    form_is =
        ap (λ (k : Bool). k && may_end (past_all start text)) (eq-eqb (lived start text) (length text) lived_all)
        ∙ ap may_end (g.stands ∙ ap (λ (t : List ℕ). past_all r t) none_left)

    pub cut_short : may_end r ≡ false → Err (TextNotOfForm (length text)) ≡ scanned text
    cut_short e = rw (form_is ∙ e, lived_all) refl

    pub ends : may_end r ≡ true → Ok numbers ≡ scanned text
    unfolding numbers_in
    ends e =
        rw (form_is ∙ e)
        (ap Ok (sym (g.kept ∙ ap (λ (t : List ℕ). numbers ++ in_words (numbers_in r t)) none_left ∙ append-nil numbers)))

-- by these the check proves each way out of the scan
pub ruleset scanning = (dies, cut_short, ends)
