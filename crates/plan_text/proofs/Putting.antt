-- Bytes put one after the other into a buffer.
use Rattle.std.proofs.Common.{ℕ, ◌+◌, ◌/◌, ◌%◌, ◌^◌, ◌≤◌, ◌<◌, ◌≡◌, refl, sym, ◌∙◌, ap, subst, List, [], ◌∷◌, ◌++◌, append_assoc, append-nil, length, take, drop, length-append, add-zero, arith}
use Rattle.std.proofs.lemmas.Slice.{take-put_mid, drop-put_mid}
use borrow.Rule.Slice.PartMut.{put_mid}
use native.Mathlib.Numerals.{add-one}
use lib.ListN.{set}
use lib.Seq.{take-suc-set, drop-set-lt, drop-drop}
use Rattle.plan_text.specs.declared.writer.Writer.{Writer}
use Rattle.plan_text.specs.Digits.{digits}
use Rattle.plan_text.specs.Plans.{Put, Puts, HasRoom}
use Rattle.plan_text.proofs.Digits.{digits_small, digits_more}

-- bytes copied to their place
pub put_copied : (out : List ℕ) (at k : ℕ) (bytes ys : List ℕ) → at + length bytes ≤ length out → k ≡ length bytes → ys ≡ bytes
    → Put out at bytes (put_mid at k out ys) (at + length bytes)
put_copied out at k bytes ys u e same =
    record {
      next_is = refl;
      front = take-put_mid at k out ys (at + length bytes) (omega (arith, ap length same)) (omega arith) ∙ ap (λ (t : List ℕ). take at out ++ t) same;
      beyond = drop-put_mid at k out ys (at + length bytes) (omega arith) (omega arith) (ap length same ∙ sym e);
    }

pub put_one : (out : List ℕ) (at b : ℕ) → at < length out → Put out at (b ∷ []) (set out at b) (at + 1)
put_one out at b u =
    record {
      next_is = refl;
      front = ap (λ (k : ℕ). take k (set out at b)) (add-one at) ∙ take-suc-set out at b u;
      beyond = drop-set-lt (at + 1) out at b (omega arith);
    }

-- bytes put, and then more
pub put_then : {before mid after : List ℕ} {at next last : ℕ} {xs ys : List ℕ} → Put before at xs mid next → Put mid next ys after last → Put before at (xs ++ ys) after last
put_then {before} {mid} {after} {at} {next} {last} {xs} {ys} p q =
    record {
      next_is = omega (arith, p.next_is, q.next_is, length-append xs ys);
      front = q.front ∙ ap (λ (t : List ℕ). t ++ ys) p.front ∙ append_assoc (take at before) xs ys;
      beyond = q.beyond ∙ further mid ∙ ap (λ (t : List ℕ). drop (length ys) t) p.beyond ∙ sym (further before);
    }
  where
    further : (l : List ℕ) → drop last l ≡ drop (length ys) (drop next l)
    further l = ap (λ (k : ℕ). drop k l) q.next_is ∙ sym (drop-drop (length ys) next l)

-- the same bytes under another name
pub put_as : {before after : List ℕ} {at next : ℕ} {xs ys : List ℕ} → Put before at xs after next → xs ≡ ys → Put before at ys after next
put_as {before} {after} {at} {next} p e = subst (λ (t : List ℕ). Put before at t after next) e p

-- no bytes put
pub put_nothing : (before : List ℕ) (at : ℕ) → Put before at [] before at
put_nothing before at = record { next_is = sym (add-zero at); front = sym (append-nil (take at before)); beyond = refl }

-- no bytes put
puts_nothing : (w : Writer) → Puts w [] w
puts_nothing w =
    record {
      same_buffer = refl;
      as_long = refl;
      put = put_nothing w.out.now w.at;
    }

-- bytes put, and then more
pub puts_then : {before mid after : Writer} {xs ys : List ℕ} → Puts before xs mid → Puts mid ys after → Puts before (xs ++ ys) after
puts_then p q =
    record {
      same_buffer = q.same_buffer ∙ p.same_buffer;
      as_long = q.as_long ∙ p.as_long;
      put = put_then p.put q.put;
    }

-- the same bytes under another name
pub puts_as : {before after : Writer} {xs ys : List ℕ} → Puts before xs after → xs ≡ ys → Puts before ys after
puts_as {before} {after} p e = subst (λ (t : List ℕ). Puts before t after) e p

-- some bytes are still to be put: there is room for them, and with what has been put they make all of it
pub record Left (before : Writer) (all : List ℕ) (now : Writer) (rest : List ℕ) : Type 0 where
  pub room : HasRoom now rest
  pub whole : (after : Writer) → Puts now rest after → Puts before all after

-- those bytes are some, and then others
pub record Pieces (bytes next others : List ℕ) : Type 0 where
  pub are : bytes ≡ next ++ others

pub room_next : {before now : Writer} {all rest next others : List ℕ} → Left before all now rest → Pieces rest next others → HasRoom now next
room_next {next = next} {others = others} w p = omega (arith, w.room, ap length p.are, length-append next others)

pub less_left : {before now after : Writer} {all rest next others : List ℕ} → Left before all now rest → Pieces rest next others → Puts now next after
    → Left before all after others
less_left {next = next} {others = others} w p q =
    record {
      room = omega (arith, w.room, ap length p.are, length-append next others, q.as_long, q.put.next_is);
      whole = λ end r. w.whole end (puts_as (puts_then q r) (sym p.are));
    }

pub none_left : {before now : Writer} {all rest : List ℕ} → Left before all now rest → rest ≡ [] → Puts before all now
none_left {now = now} w e = w.whole now (puts_as (puts_nothing now) (sym e))

-- the same of a buffer and a place in it
pub record LeftAt (before : List ℕ) (at : ℕ) (all now : List ℕ) (next : ℕ) (rest : List ℕ) : Type 0 where
  pub as_long : length now ≡ length before
  pub room : next + length rest ≤ length now
  pub whole : (after : List ℕ) (last : ℕ) → Put now next rest after last → Put before at all after last

module _ {before now : List ℕ} {at next : ℕ} {all rest front others : List ℕ} (w : LeftAt before at all now next rest) (p : Pieces rest front others) where
  pub room_for : next + length front ≤ length now
  room_for = omega (arith, w.room, ap length p.are, length-append front others)

  pub less_left_at : (after : List ℕ) (last : ℕ) → length after ≡ length now → Put now next front after last → LeftAt before at all after last others
  less_left_at after last same q =
      record {
        as_long = same ∙ w.as_long;
        room = omega (arith, w.room, ap length p.are, length-append front others, same, q.next_is);
        whole = λ end to r. w.whole end to (put_as (put_then q r) (sym p.are));
      }

pub none_left_at : {before now : List ℕ} {at next : ℕ} {all rest : List ℕ} → LeftAt before at all now next rest → rest ≡ [] → Put before at all now next
none_left_at {now = now} {next = next} w e = w.whole now next (put_as (put_nothing now next) (sym e))

-- the digits of a number, the last one apart
pub one_digit : (n : ℕ) → n < 10 → (48 + n % 10) ∷ [] ≡ digits n
one_digit n u = ap (λ (k : ℕ). (48 + k) ∷ []) (omega arith) ∙ sym (digits_small n u)

pub more_digits : (n : ℕ) → 10 ≤ n → n < 2 ^ 64 → digits (n / 10) ++ (48 + n % 10) ∷ [] ≡ digits n
more_digits n l f = sym (digits_more (n / 10) (n % 10) (omega arith) (omega arith) (omega arith)) ∙ ap digits (omega arith)

pub digits_longer : (n : ℕ) → 10 ≤ n → n < 2 ^ 64 → length (digits n) ≡ length (digits (n / 10)) + 1
digits_longer n l f = ap length (sym (more_digits n l f)) ∙ length-append (digits (n / 10)) ((48 + n % 10) ∷ [])
