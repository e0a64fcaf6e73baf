-- The lines of a queue of sheets, as ASCII bytes. Definitions only. Assumes nothing.
use Rattle.std.specs.Prelude.{Bool, false, cond, List, [], ◌∷◌, ◌++◌, map, ℕ, zero, suc, eqb, length, replicate}
use Rattle.text.specs.Decimal.{decimal}
use Rattle.listing.specs.Lines.{sheet_word, within_word, beyond_word, spent_word, refused_line}
use Rattle.sheet_queue.specs.declared.SheetRecord.{SheetRecord}
use Rattle.sheet_queue.specs.Queue.{queue_refusal, accepted_of, records_after, queue_slots_after}
use Rattle.sheet_queue.specs.Promise.{QueueRight}

-- ---- Lines

-- " "
abbrev pub space : List ℕ
space = 32 ∷ []

-- "spent cut "
abbrev pub cut_word : List ℕ
cut_word = 115 ∷ 112 ∷ 101 ∷ 110 ∷ 116 ∷ 32 ∷ 99 ∷ 117 ∷ 116 ∷ 32 ∷ []

-- a word and the figures of a number
unfoldable pub named : (word : List ℕ) → (n : ℕ) → List ℕ
named word n = word ++ decimal n

-- the word of a verdict between two spaces, with the word that tells a sheet which the allowance cut off from one that spent its own steps
unfoldable pub verdict_words : (verdict : ℕ) → (finished : Bool) → List ℕ
verdict_words v f = cond (eqb v 1) (32 ∷ within_word) (cond (eqb v 2) (32 ∷ beyond_word) (cond f (32 ∷ spent_word) (32 ∷ cut_word)))

-- a sheet's number, the steps that it asks for and those that it took, its verdict, E and G
unfoldable pub sheet_line : (number : ℕ) → SheetRecord → List ℕ
sheet_line n r =
    named sheet_word n ++ (named space r.asked ++ (named space r.used ++ (named (verdict_words r.verdict r.finished) r.distance ++ (named space r.gap ++ (10 ∷ [])))))

-- the lines of the sheets behind `before` others: they are counted from 1
unfoldable pub sheet_lines : (before : ℕ) → List SheetRecord → List ℕ
sheet_lines k [] = []
sheet_lines k (r ∷ rs) = sheet_line (suc k) r ++ sheet_lines (suc k) rs

-- these lines, or the number that refuses
unfoldable pub queue_text : (refusal : ℕ) → List SheetRecord → List ℕ
queue_text zero rs = sheet_lines 0 rs
queue_text (suc n) rs = refused_line (suc n)

-- ---- The listing of a queue

-- records of which only the lengths are known
unfoldable pub queue_of : (lengths : List ℕ) → List SheetRecord
queue_of ns = map (λ n. record { asked = 0; used = 0; finished = false; distance = 0; gap = 0; verdict = 0; length = n }) ns

-- the share list that such a queue is run with: 256 slots for each of 16 sheets
abbrev pub no_shares : List ℕ
no_shares = replicate 4096 0

-- the number that refuses the sheets of these lengths, 0 where none does; that of the slots never does
abbrev pub listing_refusal : (book lengths buffer : List ℕ) → (allowance : ℕ) → ℕ
listing_refusal b ns bs a = queue_refusal b ns bs a 4096

-- how many of them are accepted ahead of the one that refuses
abbrev pub listing_accepted : (book lengths buffer : List ℕ) → (allowance : ℕ) → ℕ
listing_accepted b ns bs a = accepted_of (length ns) b ns bs a

-- the records that they get
abbrev pub listing_records : (book lengths buffer : List ℕ) → (allowance : ℕ) → List SheetRecord
listing_records b ns bs a = records_after (listing_refusal b ns bs a) b bs a (queue_of ns)

abbrev pub listing_slots : (book lengths buffer : List ℕ) → (allowance : ℕ) → List ℕ
listing_slots b ns bs a = queue_slots_after (listing_refusal b ns bs a) b bs a (queue_of ns) no_shares

-- the lines of these records, or the number
unfoldable pub queue_listing : (book lengths buffer : List ℕ) → (allowance : ℕ) → List ℕ
queue_listing b ns bs a = queue_text (listing_refusal b ns bs a) (listing_records b ns bs a)

-- all that is promised of a queue, of what is listed
abbrev pub ListedRight : (book lengths buffer : List ℕ) → (allowance : ℕ) → Type 0
ListedRight b ns bs a = QueueRight b bs a (queue_of ns) no_shares (listing_refusal b ns bs a) (listing_records b ns bs a) (listing_slots b ns bs a)
