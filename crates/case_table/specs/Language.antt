-- The texts that the language fixes. The code of a reserved word or a symbol is its place, from 0; the code of a refusal is its number, from 1.
use Rattle.std.specs.Prelude.{ℕ, ◌+◌, List, [], ◌∷◌, ◌++◌, codes, Bool, true, ◌&&◌}
use Rattle.case_table.specs.Rows.{has_room_for}

-- each word with its place, counted from n
abbrev pub numbered : ℕ → List (List ℕ) → List (List ℕ × ℕ)
numbered n [] = []
numbered n (w ∷ ws) = (w, n) ∷ numbered (n + 1) ws

-- a table with room for so many rows takes each word in turn, with its place as its code
abbrev pub each_taken : ℕ → List (List ℕ × ℕ) → ℕ → List (List ℕ) → Bool
each_taken room rows n [] = true
each_taken room rows n (w ∷ ws) = has_room_for room rows w n && each_taken room (rows ++ (w, n) ∷ []) (n + 1) ws

-- the words of queries, the sub-attributes, the commands and the parts of commands
unfoldable pub reserved_words : List (List ℕ × ℕ)
reserved_words =
    numbered 0 (
    codes "RETRIEVE" ∷ codes "FROM" ∷ codes "WHERE" ∷ codes "TRUE" ∷ codes "FALSE" ∷ codes "NOT" ∷ codes "AND" ∷ codes "OR"
    ∷ codes "UNTIL" ∷ codes "UNTIL_WITHIN" ∷ codes "UNTIL_AFTER" ∷ codes "NEXTTIME"
    ∷ codes "EVENTUALLY" ∷ codes "EVENTUALLY_WITHIN" ∷ codes "EVENTUALLY_AFTER" ∷ codes "ALWAYS" ∷ codes "ALWAYS_FOR"
    ∷ codes "INSIDE" ∷ codes "OUTSIDE" ∷ codes "DIST" ∷ codes "WITHIN_SPHERE" ∷ codes "TIME"
    ∷ codes "value" ∷ codes "updatetime" ∷ codes "function"
    ∷ codes "class" ∷ codes "region" ∷ codes "insert" ∷ codes "update" ∷ codes "remove" ∷ codes "tick" ∷ codes "ask" ∷ codes "watch"
    ∷ codes "keep" ∷ codes "show" ∷ codes "drop" ∷ codes "list" ∷ codes "save" ∷ codes "import" ∷ codes "export" ∷ codes "quit"
    ∷ codes "point" ∷ codes "num" ∷ codes "text" ∷ codes "dyn" ∷ codes "at" ∷ codes "move" ∷ codes "rate"
    ∷ []
    )

unfoldable pub symbols : List (List ℕ × ℕ)
symbols =
    numbered 0 (
    codes "(" ∷ codes ")" ∷ codes "[" ∷ codes "]" ∷ codes "," ∷ codes "." ∷ codes "+" ∷ codes "-" ∷ codes "*"
    ∷ codes "=" ∷ codes "!=" ∷ codes "<=" ∷ codes ">=" ∷ codes "<" ∷ codes ">" ∷ codes "<-"
    ∷ []
    )

-- the names of the refusals, in the order in which they are judged
unfoldable pub refusal_names : List (List ℕ × ℕ)
refusal_names =
    numbered 1 (
    codes "LineTooLong" ∷ codes "NotAscii" ∷ codes "BadToken" ∷ codes "BadSyntax" ∷ codes "NumberRange" ∷ codes "TooLarge"
    ∷ codes "UnknownName" ∷ codes "NameTaken" ∷ codes "WrongKind" ∷ codes "NotConvex" ∷ codes "TermRange" ∷ codes "SpanRange"
    ∷ codes "ClockEnd" ∷ codes "Presence" ∷ codes "ClassFull" ∷ codes "StoreFull" ∷ codes "BindingLimit" ∷ codes "JournalFull"
    ∷ codes "NoFile" ∷ codes "BadFile"
    ∷ []
    )
