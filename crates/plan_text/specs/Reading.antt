-- Reading byte by byte: what has been read so far, and which bytes may come next. It dies at the first byte that no text of the form has there.
use Rattle.std.specs.Prelude.{ℕ, suc, ◌+◌, ◌-◌, ◌*◌, ◌/◌, Bool, true, false, not, cond, ◌&&◌, ◌||◌, Some, None, List, [], ◌∷◌, length, get_or, drop, eqb, ltb}
use Rattle.std.specs.Option.{is_some, unwrap_or}
use Rattle.answers.specs.Limits.{outside}
use Rattle.plan_text.specs.declared.reader.Reader.{Reader}
use Rattle.plan_text.specs.declared.reader.Field.{Field}
use Rattle.plan_text.specs.declared.reader.Field.TheVariants.{Frame, Ports, Input, Output, Cells}
use Rattle.plan_text.specs.Digits.{zero_byte}
use Rattle.plan_text.specs.Form.{line_feed, comma, frame_key, ports_key, flow_key, max_number}

-- the key before a field's number; an output and cells have none
abbrev pub key_of : Field → List ℕ
key_of Frame = frame_key
key_of Ports = ports_key
key_of Input = flow_key
key_of Output = []
key_of Cells = []

-- the byte that ends a field's number
abbrev pub end_of : Field → ℕ
end_of Frame = line_feed
end_of Ports = line_feed
end_of Input = comma
end_of Output = comma
end_of Cells = line_feed

-- the field after a field's end
abbrev pub next_field : Field → Field
next_field Frame = Ports
next_field Ports = Input
next_field Input = Output
next_field Output = Cells
next_field Cells = Input

-- bytes of the key are still to come
abbrev pub in_key : Reader → Bool
in_key r = ltb r.matched (length (key_of r.field))

abbrev pub is_digit : ℕ → Bool
is_digit b = not (outside zero_byte (zero_byte + 9) b)

-- a number has begun
abbrev pub started : Reader → Bool
started r = is_some r.number

-- the number so far, 0 before its first digit
abbrev pub value_of : Reader → ℕ
value_of r = unwrap_or r.number 0

-- one more digit leaves a number without a leading 0 and of at most 5 digits
abbrev pub may_grow : Reader → Bool
may_grow r = not (started r) || not (outside 1 (max_number / 10) (value_of r))

-- the byte may come next: the key's, a digit, or the end of a number that has begun
unfoldable pub takes : Reader → ℕ → Bool
takes r b =
    cond (in_key r) (eqb b (get_or (key_of r.field) r.matched 0))
    (cond (is_digit b) (may_grow r) (started r && eqb b (end_of r.field)))

-- the byte ends a number
unfoldable pub ends_number : Reader → ℕ → Bool
ends_number r b = not (in_key r) && not (is_digit b)

-- before any byte of a field
abbrev pub before_field : Field → Reader
before_field f = record { field = f; matched = 0; number = None }

-- one more byte of the key has come
abbrev pub past_key_byte : Reader → Reader
past_key_byte r = record { field = r.field; matched = r.matched + 1; number = r.number }

-- one more digit has come
abbrev pub past_digit : Reader → ℕ → Reader
past_digit r b = record { field = r.field; matched = r.matched; number = Some (value_of r * 10 + (b - zero_byte)) }

-- where the reading stands after a byte that it takes
unfoldable pub past : Reader → ℕ → Reader
past r b = cond (in_key r) (past_key_byte r) (cond (is_digit b) (past_digit r b) (before_field (next_field r.field)))

-- at the beginning of the text
abbrev pub start : Reader
start = before_field Frame

-- how many bytes are taken before one that is not
unfoldable pub lived : Reader → List ℕ → ℕ
lived r [] = 0
lived r (b ∷ t) = let rest = lived (past r b) t in cond (takes r b) (suc rest) 0

-- where the reading stands after all the bytes
unfoldable pub past_all : Reader → List ℕ → Reader
past_all r [] = r
past_all r (b ∷ t) = past_all (past r b) t

-- the numbers that the bytes end, in order
unfoldable pub numbers_in : Reader → List ℕ → List ℕ
numbers_in r [] = []
numbers_in r (b ∷ t) = let rest = numbers_in (past r b) t in cond (ends_number r b) (value_of r ∷ rest) rest

-- a text may end here: behind the ports, or behind a flow's cells
abbrev pub is_input : Field → Bool
is_input Frame = false
is_input Ports = false
is_input Input = true
is_input Output = false
is_input Cells = false

abbrev pub may_end : Reader → Bool
may_end r = is_input r.field && eqb r.matched 0

-- the text is of the form: every byte is taken, and it may end where it does
unfoldable pub is_of_form : List ℕ → Bool
is_of_form text = eqb (lived start text) (length text) && may_end (past_all start text)

-- frame, ports and list of a text of the form
unfoldable pub frame_in : List ℕ → ℕ
frame_in text = get_or (numbers_in start text) 0 0

unfoldable pub ports_in : List ℕ → ℕ
ports_in text = get_or (numbers_in start text) 1 0

unfoldable pub list_in : List ℕ → List ℕ
list_in text = drop 2 (numbers_in start text)
