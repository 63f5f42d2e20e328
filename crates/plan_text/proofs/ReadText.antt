-- How reading comes to its answer: the text's length first, then its form, then its numbers.
use Rattle.std.proofs.Common.{ℕ, min, ◌≤◌, ◌<◌, ◌≡◌, refl, sym, ◌∙◌, ap, Bool, true, false, not, cond, List, length, pos, Ok, Err, arith}
use borrow.Author.Tests.{lt-ltb, le-ltb}
use lib.Dec.{ltb}
use lib.ListN.{length-map}
use Rattle.answers.specs.declared.Answer.{Answer}
use Rattle.answers.specs.declared.Refusal.{Refusal}
use Rattle.answers.specs.declared.Refusal.TheVariants.{TextTooLong, TextNotOfForm}
use Rattle.answers.specs.Numbers.{TEXT_TOO_LONG, TEXT_NOT_OF_FORM}
use Rattle.answers.specs.Limits.{max_text}
use Rattle.answers.specs.Answers.{answer, refusal, refused}
use Rattle.plan_text.specs.Reading.{start, lived, numbers_in, is_of_form, frame_in, ports_in, list_in}
use Rattle.plan_text.specs.Plans.{max_word, in_words, scanned, plan_if_done, over_if_done, take_answer, taken_plan, taken_into, read_answer, read_plan, read_into}
use Rattle.plan_text.proofs.Recognised.{two_numbers}
use Rattle.plan_text.proofs.TakingOver.{refused_plan, refused_stays}
use Rattle.plan_text.proofs.Words.{numbers_plan, numbers_over}

-- what a scan finds, by the text's form
not_of_form : (text : List ℕ) (r : Refusal) → Err r ≡ scanned text → (is_of_form text ≡ false) × (r ≡ TextNotOfForm (lived start text))
not_of_form text r e = go (is_of_form text) refl e
  where
    go : (b : Bool) → is_of_form text ≡ b → Err r ≡ cond b (Ok (in_words (numbers_in start text))) (Err (TextNotOfForm (lived start text)))
        → (b ≡ false) × (r ≡ TextNotOfForm (lived start text))
    go true h x = cc
    go false h x = (refl, cc)

of_form : (text ns : List ℕ) → Ok ns ≡ scanned text → (is_of_form text ≡ true) × (ns ≡ in_words (numbers_in start text))
of_form text ns e = go (is_of_form text) refl e
  where
    go : (b : Bool) → is_of_form text ≡ b → Ok ns ≡ cond b (Ok (in_words (numbers_in start text))) (Err (TextNotOfForm (lived start text)))
        → (b ≡ true) × (ns ≡ in_words (numbers_in start text))
    go true h x = (refl, cc)
    go false h x = cc

module _ (text : List ℕ) (room : ℕ) where
  formed : Bool → Answer
  formed f = cond (not f) (answer TEXT_NOT_OF_FORM (pos (lived start text))) (take_answer (frame_in text) (ports_in text) (list_in text) room)

  read_is : read_answer text room ≡ cond (ltb max_text (length text)) (refusal TEXT_TOO_LONG) (formed (is_of_form text))
  unfolding read_answer take_answer formed
  read_is = refl

  pub too_long : max_text < length text → refused TextTooLong ≡ read_answer text room
  too_long u = sym (read_is ∙ ap (λ (b : Bool). cond b (refusal TEXT_TOO_LONG) (formed (is_of_form text))) (lt-ltb max_text (length text) u))

  module _ (short : length text ≤ max_text) where
    within : read_answer text room ≡ formed (is_of_form text)
    within = read_is ∙ ap (λ (b : Bool). cond b (refusal TEXT_TOO_LONG) (formed (is_of_form text))) (le-ltb max_text (length text) short)

    pub form_refused : (r : Refusal) → Err r ≡ scanned text → refused r ≡ read_answer text room
    unfolding formed
    form_refused r e = let h = not_of_form text r e in ap refused h.1 ∙ sym (within ∙ ap formed h.0)

    pub numbers_decide : (ns : List ℕ) → Ok ns ≡ scanned text → read_answer text room ≡ take_answer (frame_in text) (ports_in text) (list_in text) room
    unfolding formed
    numbers_decide ns e = within ∙ ap formed (of_form text ns e).0

-- and the buffer stays
pub form_stays : (text buffer : List ℕ) (r : Refusal) → length text ≤ max_text → Err r ≡ scanned text → buffer ≡ read_into text buffer
unfolding read_into
form_stays text buffer r short e = refused_stays r _ (form_refused text (length buffer) short r e) (list_in text) buffer

module _ (text ns : List ℕ) (e : Ok ns ≡ scanned text) where
  -- a text of the form has a frame and ports
  pub two_kept : 2 ≤ length ns
  two_kept =
      let h = of_form text ns e in
      omega (arith, ap length h.1, length-map (numbers_in start text) (λ n. min n max_word), two_numbers text h.0)

  module _ (short : length text ≤ max_text) where
    -- what is made of its numbers as they were kept is what reading hands back and leaves
    pub plan_read : (room : ℕ) → taken_plan ns room ≡ read_plan text room
    unfolding taken_plan read_plan frame_in ports_in list_in
    plan_read room =
        ap (λ (l : List ℕ). taken_plan l room) (of_form text ns e).1
        ∙ numbers_plan (numbers_in start text) room
        ∙ ap (λ (a : Answer). plan_if_done a (frame_in text) (ports_in text)) (sym (numbers_decide text room short ns e))

    pub list_read : (buffer : List ℕ) → taken_into ns buffer ≡ read_into text buffer
    unfolding taken_into read_into frame_in ports_in list_in
    list_read buffer =
        ap (λ (l : List ℕ). taken_into l buffer) (of_form text ns e).1
        ∙ numbers_over (numbers_in start text) buffer
        ∙ ap (λ (a : Answer). over_if_done a (list_in text) buffer) (sym (numbers_decide text (length buffer) short ns e))

-- by these the check proves the reading
pub ruleset reading = (too_long, form_refused, form_stays, two_kept, plan_read, list_read, refused_plan, refused_stays)
