-- The words of the lines about a card that is refused, as bytes. Definitions only.
use Rattle.std.specs.Prelude.{List, [], ◌∷◌, ℕ}

-- " has "
abbrev pub HAS : List ℕ
HAS = 32 ∷ 104 ∷ 97 ∷ 115 ∷ 32 ∷ []

-- " bytes, fewer than "
abbrev pub BYTES_BELOW : List ℕ
BYTES_BELOW = 32 ∷ 98 ∷ 121 ∷ 116 ∷ 101 ∷ 115 ∷ 44 ∷ 32 ∷ 102 ∷ 101 ∷ 119 ∷ 101 ∷ 114 ∷ 32 ∷ 116 ∷ 104 ∷ 97 ∷ 110 ∷ 32 ∷ []

-- " has more than 40000 bytes" and a newline
abbrev pub BYTES_ABOVE : List ℕ
BYTES_ABOVE = 32 ∷ 104 ∷ 97 ∷ 115 ∷ 32 ∷ 109 ∷ 111 ∷ 114 ∷ 101 ∷ 32 ∷ 116 ∷ 104 ∷ 97 ∷ 110 ∷ 32 ∷ 52 ∷ 48 ∷ 48 ∷ 48 ∷ 48 ∷ 32 ∷ 98 ∷ 121 ∷ 116 ∷ 101 ∷ 115 ∷ 10 ∷ []

-- " does not end in WCD1 or WCD2" and a newline
abbrev pub NO_LETTERS : List ℕ
NO_LETTERS = 32 ∷ 100 ∷ 111 ∷ 101 ∷ 115 ∷ 32 ∷ 110 ∷ 111 ∷ 116 ∷ 32 ∷ 101 ∷ 110 ∷ 100 ∷ 32 ∷ 105 ∷ 110 ∷ 32 ∷ 87 ∷ 67 ∷ 68 ∷ 49 ∷ 32 ∷ 111 ∷ 114 ∷ 32 ∷ 87 ∷ 67 ∷ 68 ∷ 50 ∷ 10 ∷ []

-- " boats, fleet.wbk "
abbrev pub BOATS_BOOK : List ℕ
BOATS_BOOK = 32 ∷ 98 ∷ 111 ∷ 97 ∷ 116 ∷ 115 ∷ 44 ∷ 32 ∷ 102 ∷ 108 ∷ 101 ∷ 101 ∷ 116 ∷ 46 ∷ 119 ∷ 98 ∷ 107 ∷ 32 ∷ []

-- " columns, fleet.wbk "
abbrev pub COLUMNS_BOOK : List ℕ
COLUMNS_BOOK = 32 ∷ 99 ∷ 111 ∷ 108 ∷ 117 ∷ 109 ∷ 110 ∷ 115 ∷ 44 ∷ 32 ∷ 102 ∷ 108 ∷ 101 ∷ 101 ∷ 116 ∷ 46 ∷ 119 ∷ 98 ∷ 107 ∷ 32 ∷ []

-- " has the verdict "
abbrev pub VERDICT : List ℕ
VERDICT = 32 ∷ 104 ∷ 97 ∷ 115 ∷ 32 ∷ 116 ∷ 104 ∷ 101 ∷ 32 ∷ 118 ∷ 101 ∷ 114 ∷ 100 ∷ 105 ∷ 99 ∷ 116 ∷ 32 ∷ []

-- ", not from 1 to "
abbrev pub NOT_TO : List ℕ
NOT_TO = 44 ∷ 32 ∷ 110 ∷ 111 ∷ 116 ∷ 32 ∷ 102 ∷ 114 ∷ 111 ∷ 109 ∷ 32 ∷ 49 ∷ 32 ∷ 116 ∷ 111 ∷ 32 ∷ []

-- " steps, sheet.wsh "
abbrev pub STEPS_SHEET : List ℕ
STEPS_SHEET = 32 ∷ 115 ∷ 116 ∷ 101 ∷ 112 ∷ 115 ∷ 44 ∷ 32 ∷ 115 ∷ 104 ∷ 101 ∷ 101 ∷ 116 ∷ 46 ∷ 119 ∷ 115 ∷ 104 ∷ 32 ∷ []

-- " has the back count "
abbrev pub BACK : List ℕ
BACK = 32 ∷ 104 ∷ 97 ∷ 115 ∷ 32 ∷ 116 ∷ 104 ∷ 101 ∷ 32 ∷ 98 ∷ 97 ∷ 99 ∷ 107 ∷ 32 ∷ 99 ∷ 111 ∷ 117 ∷ 110 ∷ 116 ∷ 32 ∷ []

-- ", more than the "
abbrev pub MORE_THAN : List ℕ
MORE_THAN = 44 ∷ 32 ∷ 109 ∷ 111 ∷ 114 ∷ 101 ∷ 32 ∷ 116 ∷ 104 ∷ 97 ∷ 110 ∷ 32 ∷ 116 ∷ 104 ∷ 101 ∷ 32 ∷ []

-- " bytes before its trailer" and a newline
abbrev pub BYTES_BEFORE : List ℕ
BYTES_BEFORE = 32 ∷ 98 ∷ 121 ∷ 116 ∷ 101 ∷ 115 ∷ 32 ∷ 98 ∷ 101 ∷ 102 ∷ 111 ∷ 114 ∷ 101 ∷ 32 ∷ 105 ∷ 116 ∷ 115 ∷ 32 ∷ 116 ∷ 114 ∷ 97 ∷ 105 ∷ 108 ∷ 101 ∷ 114 ∷ 10 ∷ []

-- ", not a multiple of 4 from 4 to "
abbrev pub NOT_FOURS : List ℕ
NOT_FOURS = 44 ∷ 32 ∷ 110 ∷ 111 ∷ 116 ∷ 32 ∷ 97 ∷ 32 ∷ 109 ∷ 117 ∷ 108 ∷ 116 ∷ 105 ∷ 112 ∷ 108 ∷ 101 ∷ 32 ∷ 111 ∷ 102 ∷ 32 ∷ 52 ∷ 32 ∷ 102 ∷ 114 ∷ 111 ∷ 109 ∷ 32 ∷ 52 ∷ 32 ∷ 116 ∷ 111 ∷ 32 ∷ []

-- ", entry "
abbrev pub IN_ENTRY : List ℕ
IN_ENTRY = 44 ∷ 32 ∷ 101 ∷ 110 ∷ 116 ∷ 114 ∷ 121 ∷ 32 ∷ []

-- ": boat "
abbrev pub BOAT : List ℕ
BOAT = 58 ∷ 32 ∷ 98 ∷ 111 ∷ 97 ∷ 116 ∷ 32 ∷ []

-- " is not above the boat before it" and a newline
abbrev pub NOT_ABOVE : List ℕ
NOT_ABOVE = 32 ∷ 105 ∷ 115 ∷ 32 ∷ 110 ∷ 111 ∷ 116 ∷ 32 ∷ 97 ∷ 98 ∷ 111 ∷ 118 ∷ 101 ∷ 32 ∷ 116 ∷ 104 ∷ 101 ∷ 32 ∷ 98 ∷ 111 ∷ 97 ∷ 116 ∷ 32 ∷ 98 ∷ 101 ∷ 102 ∷ 111 ∷ 114 ∷ 101 ∷ 32 ∷ 105 ∷ 116 ∷ 10 ∷ []

-- " is not in fleet.wbk" and a newline
abbrev pub NOT_IN_BOOK : List ℕ
NOT_IN_BOOK = 32 ∷ 105 ∷ 115 ∷ 32 ∷ 110 ∷ 111 ∷ 116 ∷ 32 ∷ 105 ∷ 110 ∷ 32 ∷ 102 ∷ 108 ∷ 101 ∷ 101 ∷ 116 ∷ 46 ∷ 119 ∷ 98 ∷ 107 ∷ 10 ∷ []

-- " has a share of 0" and a newline
abbrev pub NO_SHARE : List ℕ
NO_SHARE = 32 ∷ 104 ∷ 97 ∷ 115 ∷ 32 ∷ 97 ∷ 32 ∷ 115 ∷ 104 ∷ 97 ∷ 114 ∷ 101 ∷ 32 ∷ 111 ∷ 102 ∷ 32 ∷ 48 ∷ 10 ∷ []

-- " has shares of "
abbrev pub SHARES_OF : List ℕ
SHARES_OF = 32 ∷ 104 ∷ 97 ∷ 115 ∷ 32 ∷ 115 ∷ 104 ∷ 97 ∷ 114 ∷ 101 ∷ 115 ∷ 32 ∷ 111 ∷ 102 ∷ 32 ∷ []

-- " boats, more than its "
abbrev pub BOATS_THAN : List ℕ
BOATS_THAN = 32 ∷ 98 ∷ 111 ∷ 97 ∷ 116 ∷ 115 ∷ 44 ∷ 32 ∷ 109 ∷ 111 ∷ 114 ∷ 101 ∷ 32 ∷ 116 ∷ 104 ∷ 97 ∷ 110 ∷ 32 ∷ 105 ∷ 116 ∷ 115 ∷ 32 ∷ []

-- " steps" and a newline
abbrev pub STEPS : List ℕ
STEPS = 32 ∷ 115 ∷ 116 ∷ 101 ∷ 112 ∷ 115 ∷ 10 ∷ []

-- " has shares of total "
abbrev pub TOTAL : List ℕ
TOTAL = 32 ∷ 104 ∷ 97 ∷ 115 ∷ 32 ∷ 115 ∷ 104 ∷ 97 ∷ 114 ∷ 101 ∷ 115 ∷ 32 ∷ 111 ∷ 102 ∷ 32 ∷ 116 ∷ 111 ∷ 116 ∷ 97 ∷ 108 ∷ 32 ∷ []

-- ", not "
abbrev pub NOT : List ℕ
NOT = 44 ∷ 32 ∷ 110 ∷ 111 ∷ 116 ∷ 32 ∷ []

-- " has the distance "
abbrev pub DISTANCE : List ℕ
DISTANCE = 32 ∷ 104 ∷ 97 ∷ 115 ∷ 32 ∷ 116 ∷ 104 ∷ 101 ∷ 32 ∷ 100 ∷ 105 ∷ 115 ∷ 116 ∷ 97 ∷ 110 ∷ 99 ∷ 101 ∷ 32 ∷ []

-- " has the gap "
abbrev pub GAP : List ℕ
GAP = 32 ∷ 104 ∷ 97 ∷ 115 ∷ 32 ∷ 116 ∷ 104 ∷ 101 ∷ 32 ∷ 103 ∷ 97 ∷ 112 ∷ 32 ∷ []

-- ", its shares "
abbrev pub ITS_SHARES : List ℕ
ITS_SHARES = 44 ∷ 32 ∷ 105 ∷ 116 ∷ 115 ∷ 32 ∷ 115 ∷ 104 ∷ 97 ∷ 114 ∷ 101 ∷ 115 ∷ 32 ∷ []

-- " is Spent at step "
abbrev pub SPENT : List ℕ
SPENT = 32 ∷ 105 ∷ 115 ∷ 32 ∷ 83 ∷ 112 ∷ 101 ∷ 110 ∷ 116 ∷ 32 ∷ 97 ∷ 116 ∷ 32 ∷ 115 ∷ 116 ∷ 101 ∷ 112 ∷ 32 ∷ []

-- ", sheet.wsh has "
abbrev pub SHEET_HAS : List ℕ
SHEET_HAS = 44 ∷ 32 ∷ 115 ∷ 104 ∷ 101 ∷ 101 ∷ 116 ∷ 46 ∷ 119 ∷ 115 ∷ 104 ∷ 32 ∷ 104 ∷ 97 ∷ 115 ∷ 32 ∷ []

-- " has the tolerance "
abbrev pub TOLERANCE : List ℕ
TOLERANCE = 32 ∷ 104 ∷ 97 ∷ 115 ∷ 32 ∷ 116 ∷ 104 ∷ 101 ∷ 32 ∷ 116 ∷ 111 ∷ 108 ∷ 101 ∷ 114 ∷ 97 ∷ 110 ∷ 99 ∷ 101 ∷ 32 ∷ []

-- ", sheet.wsh "
abbrev pub SHEET : List ℕ
SHEET = 44 ∷ 32 ∷ 115 ∷ 104 ∷ 101 ∷ 101 ∷ 116 ∷ 46 ∷ 119 ∷ 115 ∷ 104 ∷ 32 ∷ []
