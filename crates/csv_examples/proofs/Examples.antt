-- Texts and their tokens, of which those that say nothing are left out: the fields are those that Python's csv module reads.
-- Made by tests/csv_examples.py.
use Rattle.std.proofs.Common.{refl}
use Rattle.std.specs.Prelude.{◌≡◌, cond, List, [], ◌∷◌, ℕ, eqb}
use Rattle.csv_bytes.specs.Tokens.{tokens, separator_from, separator, csv_tokens}

said : List ℕ → List ℕ
said [] = []
said (k ∷ ks) = cond (eqb k 259) (said ks) (k ∷ said ks)

plain : said (csv_tokens (98 ∷ 111 ∷ 97 ∷ 116 ∷ 44 ∷ 104 ∷ 117 ∷ 108 ∷ 108 ∷ 10 ∷ 65 ∷ 108 ∷ 107 ∷ 97 ∷ 44 ∷ 51 ∷ 53 ∷ 50 ∷ 10 ∷ [])) ≡ 98 ∷ 111 ∷ 97 ∷ 116 ∷ 256 ∷ 104 ∷ 117 ∷ 108 ∷ 108 ∷ 257 ∷ 65 ∷ 108 ∷ 107 ∷ 97 ∷ 256 ∷ 51 ∷ 53 ∷ 50 ∷ 257 ∷ 258 ∷ []
unfolding said tokens separator_from separator csv_tokens
plain = refl

no_line_end : said (csv_tokens (98 ∷ 111 ∷ 97 ∷ 116 ∷ 44 ∷ 104 ∷ 117 ∷ 108 ∷ 108 ∷ 10 ∷ 65 ∷ 108 ∷ 107 ∷ 97 ∷ 44 ∷ 51 ∷ 53 ∷ 50 ∷ [])) ≡ 98 ∷ 111 ∷ 97 ∷ 116 ∷ 256 ∷ 104 ∷ 117 ∷ 108 ∷ 108 ∷ 257 ∷ 65 ∷ 108 ∷ 107 ∷ 97 ∷ 256 ∷ 51 ∷ 53 ∷ 50 ∷ 258 ∷ []
unfolding said tokens separator_from separator csv_tokens
no_line_end = refl

carriage_returns : said (csv_tokens (98 ∷ 111 ∷ 97 ∷ 116 ∷ 44 ∷ 104 ∷ 117 ∷ 108 ∷ 108 ∷ 13 ∷ 10 ∷ 65 ∷ 108 ∷ 107 ∷ 97 ∷ 44 ∷ 51 ∷ 53 ∷ 50 ∷ 13 ∷ 10 ∷ [])) ≡ 98 ∷ 111 ∷ 97 ∷ 116 ∷ 256 ∷ 104 ∷ 117 ∷ 108 ∷ 108 ∷ 257 ∷ 65 ∷ 108 ∷ 107 ∷ 97 ∷ 256 ∷ 51 ∷ 53 ∷ 50 ∷ 257 ∷ 258 ∷ []
unfolding said tokens separator_from separator csv_tokens
carriage_returns = refl

returns_alone : said (csv_tokens (98 ∷ 111 ∷ 97 ∷ 116 ∷ 44 ∷ 104 ∷ 117 ∷ 108 ∷ 108 ∷ 13 ∷ 65 ∷ 108 ∷ 107 ∷ 97 ∷ 44 ∷ 51 ∷ 53 ∷ 50 ∷ 13 ∷ [])) ≡ 98 ∷ 111 ∷ 97 ∷ 116 ∷ 256 ∷ 104 ∷ 117 ∷ 108 ∷ 108 ∷ 257 ∷ 65 ∷ 108 ∷ 107 ∷ 97 ∷ 256 ∷ 51 ∷ 53 ∷ 50 ∷ 257 ∷ 258 ∷ []
unfolding said tokens separator_from separator csv_tokens
returns_alone = refl

semicolons : said (csv_tokens (98 ∷ 111 ∷ 97 ∷ 116 ∷ 59 ∷ 104 ∷ 117 ∷ 108 ∷ 108 ∷ 10 ∷ 65 ∷ 108 ∷ 107 ∷ 97 ∷ 59 ∷ 51 ∷ 53 ∷ 50 ∷ 10 ∷ [])) ≡ 98 ∷ 111 ∷ 97 ∷ 116 ∷ 256 ∷ 104 ∷ 117 ∷ 108 ∷ 108 ∷ 257 ∷ 65 ∷ 108 ∷ 107 ∷ 97 ∷ 256 ∷ 51 ∷ 53 ∷ 50 ∷ 257 ∷ 258 ∷ []
unfolding said tokens separator_from separator csv_tokens
semicolons = refl

tabs : said (csv_tokens (98 ∷ 111 ∷ 97 ∷ 116 ∷ 9 ∷ 104 ∷ 117 ∷ 108 ∷ 108 ∷ 10 ∷ 65 ∷ 108 ∷ 107 ∷ 97 ∷ 9 ∷ 51 ∷ 53 ∷ 50 ∷ 10 ∷ [])) ≡ 98 ∷ 111 ∷ 97 ∷ 116 ∷ 256 ∷ 104 ∷ 117 ∷ 108 ∷ 108 ∷ 257 ∷ 65 ∷ 108 ∷ 107 ∷ 97 ∷ 256 ∷ 51 ∷ 53 ∷ 50 ∷ 257 ∷ 258 ∷ []
unfolding said tokens separator_from separator csv_tokens
tabs = refl

comma_before_semicolon : said (csv_tokens (98 ∷ 111 ∷ 97 ∷ 116 ∷ 59 ∷ 104 ∷ 117 ∷ 108 ∷ 108 ∷ 44 ∷ 109 ∷ 97 ∷ 99 ∷ 104 ∷ 10 ∷ [])) ≡ 98 ∷ 111 ∷ 97 ∷ 116 ∷ 59 ∷ 104 ∷ 117 ∷ 108 ∷ 108 ∷ 256 ∷ 109 ∷ 97 ∷ 99 ∷ 104 ∷ 257 ∷ 258 ∷ []
unfolding said tokens separator_from separator csv_tokens
comma_before_semicolon = refl

quoted_separator : said (csv_tokens (34 ∷ 98 ∷ 111 ∷ 97 ∷ 116 ∷ 59 ∷ 32 ∷ 97 ∷ 110 ∷ 121 ∷ 34 ∷ 44 ∷ 104 ∷ 117 ∷ 108 ∷ 108 ∷ 10 ∷ [])) ≡ 98 ∷ 111 ∷ 97 ∷ 116 ∷ 59 ∷ 32 ∷ 97 ∷ 110 ∷ 121 ∷ 256 ∷ 104 ∷ 117 ∷ 108 ∷ 108 ∷ 257 ∷ 258 ∷ []
unfolding said tokens separator_from separator csv_tokens
quoted_separator = refl

comma_in_quotes : said (csv_tokens (34 ∷ 119 ∷ 101 ∷ 105 ∷ 103 ∷ 104 ∷ 116 ∷ 44 ∷ 32 ∷ 107 ∷ 103 ∷ 34 ∷ 59 ∷ 104 ∷ 117 ∷ 108 ∷ 108 ∷ 10 ∷ [])) ≡ 119 ∷ 101 ∷ 105 ∷ 103 ∷ 104 ∷ 116 ∷ 44 ∷ 32 ∷ 107 ∷ 103 ∷ 256 ∷ 104 ∷ 117 ∷ 108 ∷ 108 ∷ 257 ∷ 258 ∷ []
unfolding said tokens separator_from separator csv_tokens
comma_in_quotes = refl

doubled_quote : said (csv_tokens (34 ∷ 53 ∷ 34 ∷ 34 ∷ 32 ∷ 112 ∷ 117 ∷ 109 ∷ 112 ∷ 34 ∷ 44 ∷ 34 ∷ 34 ∷ 34 ∷ 34 ∷ 10 ∷ [])) ≡ 53 ∷ 34 ∷ 32 ∷ 112 ∷ 117 ∷ 109 ∷ 112 ∷ 256 ∷ 34 ∷ 257 ∷ 258 ∷ []
unfolding said tokens separator_from separator csv_tokens
doubled_quote = refl

line_in_quotes : said (csv_tokens (34 ∷ 65 ∷ 108 ∷ 107 ∷ 97 ∷ 10 ∷ 73 ∷ 73 ∷ 34 ∷ 44 ∷ 49 ∷ 10 ∷ [])) ≡ 65 ∷ 108 ∷ 107 ∷ 97 ∷ 10 ∷ 73 ∷ 73 ∷ 256 ∷ 49 ∷ 257 ∷ 258 ∷ []
unfolding said tokens separator_from separator csv_tokens
line_in_quotes = refl

quote_inside : said (csv_tokens (53 ∷ 34 ∷ 32 ∷ 112 ∷ 117 ∷ 109 ∷ 112 ∷ 44 ∷ 49 ∷ 10 ∷ [])) ≡ 53 ∷ 34 ∷ 32 ∷ 112 ∷ 117 ∷ 109 ∷ 112 ∷ 256 ∷ 49 ∷ 257 ∷ 258 ∷ []
unfolding said tokens separator_from separator csv_tokens
quote_inside = refl

empty_fields : said (csv_tokens (44 ∷ 44 ∷ 10 ∷ 34 ∷ 34 ∷ 44 ∷ 10 ∷ [])) ≡ 256 ∷ 256 ∷ 257 ∷ 256 ∷ 257 ∷ 258 ∷ []
unfolding said tokens separator_from separator csv_tokens
empty_fields = refl

blank_lines : said (csv_tokens (97 ∷ 10 ∷ 10 ∷ 98 ∷ 10 ∷ 10 ∷ [])) ≡ 97 ∷ 257 ∷ 257 ∷ 98 ∷ 257 ∷ 257 ∷ 258 ∷ []
unfolding said tokens separator_from separator csv_tokens
blank_lines = refl

blank_first_line : said (csv_tokens (10 ∷ 98 ∷ 111 ∷ 97 ∷ 116 ∷ 59 ∷ 97 ∷ 10 ∷ [])) ≡ 257 ∷ 98 ∷ 111 ∷ 97 ∷ 116 ∷ 256 ∷ 97 ∷ 257 ∷ 258 ∷ []
unfolding said tokens separator_from separator csv_tokens
blank_first_line = refl

empty_quotes_first : said (csv_tokens (34 ∷ 34 ∷ 13 ∷ 10 ∷ 98 ∷ 111 ∷ 97 ∷ 116 ∷ 9 ∷ 97 ∷ 10 ∷ [])) ≡ 257 ∷ 98 ∷ 111 ∷ 97 ∷ 116 ∷ 256 ∷ 97 ∷ 257 ∷ 258 ∷ []
unfolding said tokens separator_from separator csv_tokens
empty_quotes_first = refl

quote_inside_tabs : said (csv_tokens (53 ∷ 34 ∷ 32 ∷ 98 ∷ 111 ∷ 97 ∷ 116 ∷ 9 ∷ 97 ∷ 10 ∷ [])) ≡ 53 ∷ 34 ∷ 32 ∷ 98 ∷ 111 ∷ 97 ∷ 116 ∷ 256 ∷ 97 ∷ 257 ∷ 258 ∷ []
unfolding said tokens separator_from separator csv_tokens
quote_inside_tabs = refl

comma_in_later_quotes : said (csv_tokens (98 ∷ 111 ∷ 97 ∷ 116 ∷ 59 ∷ 34 ∷ 97 ∷ 44 ∷ 32 ∷ 109 ∷ 34 ∷ 10 ∷ [])) ≡ 98 ∷ 111 ∷ 97 ∷ 116 ∷ 256 ∷ 97 ∷ 44 ∷ 32 ∷ 109 ∷ 257 ∷ 258 ∷ []
unfolding said tokens separator_from separator csv_tokens
comma_in_later_quotes = refl

mark : said (csv_tokens (239 ∷ 187 ∷ 191 ∷ 98 ∷ 111 ∷ 97 ∷ 116 ∷ 44 ∷ 104 ∷ 117 ∷ 108 ∷ 108 ∷ 10 ∷ [])) ≡ 98 ∷ 111 ∷ 97 ∷ 116 ∷ 256 ∷ 104 ∷ 117 ∷ 108 ∷ 108 ∷ 257 ∷ 258 ∷ []
unfolding said tokens separator_from separator csv_tokens
mark = refl

mark_and_quotes : said (csv_tokens (239 ∷ 187 ∷ 191 ∷ 34 ∷ 98 ∷ 111 ∷ 97 ∷ 116 ∷ 44 ∷ 32 ∷ 97 ∷ 110 ∷ 121 ∷ 34 ∷ 59 ∷ 104 ∷ 117 ∷ 108 ∷ 108 ∷ 10 ∷ [])) ≡ 98 ∷ 111 ∷ 97 ∷ 116 ∷ 44 ∷ 32 ∷ 97 ∷ 110 ∷ 121 ∷ 256 ∷ 104 ∷ 117 ∷ 108 ∷ 108 ∷ 257 ∷ 258 ∷ []
unfolding said tokens separator_from separator csv_tokens
mark_and_quotes = refl

other_letters : said (csv_tokens (195 ∷ 133 ∷ 44 ∷ 195 ∷ 152 ∷ 10 ∷ [])) ≡ 195 ∷ 133 ∷ 256 ∷ 195 ∷ 152 ∷ 257 ∷ 258 ∷ []
unfolding said tokens separator_from separator csv_tokens
other_letters = refl

empty : said (csv_tokens []) ≡ 258 ∷ []
unfolding said tokens separator_from separator csv_tokens
empty = refl
