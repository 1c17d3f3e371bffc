-- Text: "The run file and its listing" has the listing's; beside it rows of numbers, titles and times, a number between two texts, and a
-- word read as a number. A text is the list of its bytes; 32 is the space, 10 ends a line.
use Rattle.std.specs.Prelude.{◌≡◌, Bool, true, false, cond, ◌&&◌, Option, Some, None, List, [], ◌∷◌, ◌++◌, map, ℕ, zero, suc, ◌+◌, ◌-◌, ◌*◌, ◌/◌, ◌≤◌, eqb, ltb, leb, length, take, drop}
use Rattle.std.proofs.lemmas.List.Edits.{sets}
use Rattle.io.specs.Digits.{last_digits}
use Rattle.text.specs.Spelt.{spelt}
use Rattle.text.specs.declared.Out.{Out}

-- how many digits stand before the last one, where `rest` is the number without its last digit; at most as many as the first number says
abbrev pub further : ℕ → ℕ → ℕ
further zero rest = 0
further (suc f) rest = cond (eqb rest 0) 0 (suc (further f (rest / 10)))

-- how many digits a 64-bit number has: 1 to 20
unfoldable pub places : ℕ → ℕ
places n = suc (further 19 (n / 10))

-- a 64-bit number in decimal, with no zeros in front: `io`'s digits
unfoldable pub decimal : ℕ → List ℕ
decimal n = last_digits 10 (places n) n

-- "fields parted by one space": fields, each with the space before it, and the newline
abbrev pub rest_text : List (List ℕ) → List ℕ
rest_text [] = 10 ∷ []
rest_text (t ∷ ts) = 32 ∷ t ++ rest_text ts

-- .. and a row of them, with no space before the first; no text for no field
abbrev pub row_text : List (List ℕ) → List ℕ
row_text [] = []
row_text (t ∷ ts) = t ++ rest_text ts

-- a number so, with the space before it; numbers so; and these with the newline behind them
abbrev pub field_text : ℕ → List ℕ
field_text n = 32 ∷ decimal n

abbrev pub spaced_text : List ℕ → List ℕ
spaced_text [] = []
spaced_text (n ∷ ns) = field_text n ++ spaced_text ns

abbrev pub fields_text : List ℕ → List ℕ
fields_text ns = rest_text (map decimal ns)

-- how a line is printed: a letter, and how many of its fields
abbrev pub Form : Type 0
Form = ℕ × ℕ

-- a line in its form: the letter, the first so many of its fields, and what stands beside it; no text for no form
abbrev pub form_text : Option Form → List ℕ → List ℕ → List ℕ
form_text (Some form) fields beside = form.0 ∷ fields_text (take form.1 fields ++ beside)
form_text None fields beside = []

-- how many fields a form prints
abbrev pub fields_in : Option Form → ℕ
fields_in (Some form) = form.1
fields_in None = 0

-- the lines of a listing, one entry each: the kind, and as its form the letter and how many of the five fields are printed
unfoldable pub kinds : List (ℕ × Form)
kinds =
    -- "1, start tick, flow, length, deficit after, visits (printed `S`)"
    (1, (83, 5)) ∷
    -- "2, the event's tick, flow, length, refusal number, 0 (printed `D`, last 0 left out)"
    (2, (68, 4)) ∷
    -- "3, tick when the line fell free, packets sent, events refused, 0, 0 (printed `E`, zeros left out)"
    (3, (69, 3)) ∷ []

-- the form of a kind by such a table; none for a kind that it does not have
abbrev pub form_in : List (ℕ × Form) → ℕ → Option Form
form_in [] kind = None
form_in (entry ∷ more) kind = cond (eqb kind entry.0) (Some entry.1) (form_in more kind)

-- what stands beside a line: the first of the numbers that are left for it, if there is one; nothing beside line 3
abbrev pub beside_line : ℕ → List ℕ → List ℕ
beside_line kind beside = cond (eqb kind 3) [] (take 1 beside)

-- "prints one line each": the text of a line by its kind, its five fields and what is left to stand beside it; none for a kind that no
-- listing has
unfoldable pub line_text : ℕ → List ℕ → List ℕ → List ℕ
line_text kind five beside = form_text (form_in kinds kind) five (beside_line kind beside)

-- "six 64-bit numbers a line", line after line, up to and with line 3, beside each the number that stands for it; fewer than six numbers
-- at the end give nothing
unfoldable pub beside_text : List ℕ → List ℕ → List ℕ
beside_text [] beside = []
beside_text (k ∷ []) beside = []
beside_text (k ∷ a ∷ []) beside = []
beside_text (k ∷ a ∷ b ∷ []) beside = []
beside_text (k ∷ a ∷ b ∷ c ∷ []) beside = []
beside_text (k ∷ a ∷ b ∷ c ∷ d ∷ []) beside = []
beside_text (k ∷ a ∷ b ∷ c ∷ d ∷ e ∷ more) beside =
    line_text k (a ∷ b ∷ c ∷ d ∷ e ∷ []) beside ++ cond (eqb k 3) [] (beside_text more (drop 1 beside))

-- a listing alone, with nothing beside its lines
abbrev pub listing_text : List ℕ → List ℕ
listing_text list = beside_text list []

-- "for a refused file one line `R number place`"
abbrev pub refusal_text : ℕ → ℕ → List ℕ
refusal_text number place = 82 ∷ fields_text (number ∷ place ∷ [])

-- ---- the rows of `drrfigures`
-- numbers alone: parted by one space, a newline at the end; no text for no number
abbrev pub numbers_text : List ℕ → List ℕ
numbers_text ns = row_text (map decimal ns)

-- a time in hundred-millionths of a second: the seconds, a point, and eight digits
unfoldable pub time_text : ℕ → List ℕ
time_text t = decimal (t / 100000000) ++ 46 ∷ last_digits 10 8 t

-- numbers, and a time as the last field
abbrev pub timed_text : List ℕ → ℕ → List ℕ
timed_text ns t = row_text (map decimal ns ++ time_text t ∷ [])

-- the title of what is owed of so many bytes
abbrev pub owed_title : ℕ → List ℕ
owed_title S = spelt "owed_" ++ decimal S

-- .. and, where a time is the last field, its title
abbrev pub last_title : Bool → List (List ℕ)
last_title timed = cond timed (spelt "wait_seconds" ∷ []) []

-- the titles behind the first five
abbrev pub later_titles : List ℕ → Bool → List (List ℕ)
later_titles sizes timed = map owed_title sizes ++ last_title timed

-- the titles of all columns: flow, quantum, maximum, C, wait, owed of each number of bytes, and of the time
abbrev pub titles_text : List ℕ → Bool → List ℕ
titles_text sizes timed =
    row_text (spelt "flow" ∷ spelt "quantum" ∷ spelt "maximum" ∷ spelt "C" ∷ spelt "wait" ∷ later_titles sizes timed)

-- a text with another byte in place of each space
abbrev pub parted_byte : ℕ → ℕ → ℕ
parted_byte parting byte = cond (eqb byte 32) parting byte

abbrev pub parted : ℕ → List ℕ → List ℕ
parted parting text = map (parted_byte parting) text

-- a number between two texts
abbrev pub around : List ℕ → ℕ → List ℕ → List ℕ
around front n back = front ++ decimal n ++ back

-- ---- in a lent buffer
-- what is written into a buffer of this many bytes: nothing, where it has fewer than 18 for each number of the list,
-- which is room for any listing
unfoldable pub listing_within : List ℕ → ℕ → List ℕ
listing_within list room = cond (ltb (room / 18) (length list)) [] (listing_text list)

-- .. nothing, where it has fewer than that and 21 for each number beside it
unfoldable pub beside_within : List ℕ → List ℕ → ℕ → List ℕ
beside_within list beside room = cond (ltb room (18 * length list + 21 * length beside)) [] (beside_text list beside)

-- .. nothing, where it has fewer than 44, which is room for any refusal
unfoldable pub refusal_within : ℕ → ℕ → ℕ → List ℕ
refusal_within number place room = cond (ltb room 44) [] (refusal_text number place)

-- .. nothing, where it has fewer than 21 for each number, which is room for any numbers
unfoldable pub numbers_within : List ℕ → ℕ → List ℕ
numbers_within list room = cond (ltb (room / 21) (length list)) [] (numbers_text list)

-- .. nothing, where it has fewer than 30 for each field, which is room for any numbers and a time
unfoldable pub timed_within : List ℕ → ℕ → ℕ → List ℕ
timed_within list t room = cond (ltb (room / 30) (length list + 1)) [] (timed_text list t)

-- .. or for any titles: 30 for each of five, of those of what is owed, and of the last
unfoldable pub titles_within : List ℕ → Bool → ℕ → List ℕ
titles_within sizes timed room = cond (ltb (room / 30) (length sizes + 6)) [] (titles_text sizes timed)

-- .. nothing, where it has fewer than the two texts and 20, which is room for any number between them
unfoldable pub around_within : List ℕ → ℕ → List ℕ → ℕ → List ℕ
around_within front n back room = cond (ltb room (length front + 20 + length back)) [] (around front n back)

-- a buffer with this text at its start, and what follows as it was
abbrev pub overlaid : List ℕ → List ℕ → List ℕ
overlaid text b = text ++ drop (length text) b

-- the text v is put at `at`, byte after byte: what the buffer is then, and where the text ends
abbrev pub Put : List ℕ → ℕ → List ℕ → List ℕ → ℕ → Type 0
Put b at v b' end = (b' ≡ sets b at v) × (end ≡ at + length v)

-- a text put so where the buffer stands at, and the buffer is the one that was lent
pub record Puts (out : Out) (v : List ℕ) (out' : Out) : Type 0 where
  pub same_buffer : out'.buf.ghost_name ≡ out.buf.ghost_name
  pub put : Put out.buf.now out.at v out'.buf.now out'.at

-- room for a text
abbrev pub HasRoom : Out → List ℕ → Type 0
HasRoom out v = out.at + length v ≤ length out.buf.now

-- ---- a number as a word: decimal digits alone, at least one, and no more than eighteen nines
abbrev pub most_number : ℕ
most_number = 999999999999999999

-- the digits from here on, where those before them gave n
abbrev pub read_on : ℕ → List ℕ → Option ℕ
read_on n [] = Some n
read_on n (d ∷ ds) = cond (leb 48 d && leb d 57 && leb (10 * n + (d - 48)) most_number) (read_on (10 * n + (d - 48)) ds) None

abbrev pub word_of : List ℕ → Option ℕ
word_of [] = None
word_of (d ∷ ds) = read_on 0 (d ∷ ds)

-- whether two texts are the same bytes
abbrev pub same : List ℕ → List ℕ → Bool
same [] [] = true
same [] (y ∷ ys) = false
same (x ∷ xs) [] = false
same (x ∷ xs) (y ∷ ys) = eqb x y && same xs ys
