-- Which kinds of values may be compared.
use Rattle.std.specs.Prelude.{Bool, true, false, ℕ, List, codes}
use Rattle.case_table.specs.declared.compare.Op.{Op}
use Rattle.case_table.specs.declared.compare.Op.TheVariants as ops
use Rattle.formula.specs.declared.value.ValueKind.{ValueKind}
use Rattle.formula.specs.declared.value.ValueKind.TheVariants.{Number, Text}
use Rattle.formula.specs.declared.kind.QueryKind.{QueryKind}
use Rattle.formula.specs.declared.kind.QueryKind.TheVariants.{Keep, Watch}

abbrev pub is_equality : Op → Bool
is_equality ops.Eq = true
is_equality ops.Ne = true
is_equality _ = false

-- numbers compare with numbers, and texts with texts by `=` and `!=` alone
abbrev pub may_compare : ValueKind → Op → ValueKind → Bool
may_compare Number op Number = true
may_compare Text op Text = is_equality op
may_compare _ op _ = false

-- the word of a kind of query
abbrev pub kind_word : QueryKind → List ℕ
kind_word Watch = codes "watch"
kind_word Keep = codes "keep"
