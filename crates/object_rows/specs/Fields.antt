-- What a field gives, by the form of its column.
use Rattle.std.specs.Prelude.{ℕ, ℤ, ◌&&◌, not, nat_le, is_none, Bool, Option, Some, None, option_map, List, [], length, if◌then◌else◌}
use Rattle.std.specs.List.{list_all}
use Rattle.case_table.specs.Rows.{code_of}
use Rattle.case_table.specs.Language.{reserved_words}
use Rattle.fixed_point.specs.Decimal.{thousandths_of}
use Rattle.fixed_point.specs.declared.number.TheConstants.{READ_LIMIT, SLOPE_LIMIT}
use Rattle.fixed_point.specs.declared.short_text.TheConstants.{WORD_LIMIT}
use Rattle.ftl_lexer.specs.Cut.{is_word}
use Rattle.ftl_lexer.specs.Forms.{is_quote}
use Rattle.motion.specs.Function.{Function}
use Rattle.motion.specs.declared.cell.Given.{Given}
use Rattle.motion.specs.declared.cell.Given.TheVariants as givens
use Rattle.object_rows.specs.declared.columns.Form.{Form}
use Rattle.object_rows.specs.declared.columns.Form.TheVariants as forms

-- the name of an object: a name of at most 32 bytes that isn't reserved
abbrev pub is_object_name : List ℕ → Bool
is_object_name field = nat_le (length field) WORD_LIMIT && is_word field && is_none (code_of reserved_words field)

-- 0x20 to 0x7E but no quote
abbrev pub is_text_byte : ℕ → Bool
is_text_byte b = nat_le 32 b && nat_le b 126 && not (is_quote b)

abbrev pub is_text_field : List ℕ → Bool
is_text_field field = nat_le (length field) WORD_LIMIT && list_all is_text_byte field

-- a rate is of one leg, which has no end
abbrev pub one_leg : ℤ → Function
one_leg slope = record { firsts = []; last = slope }

-- what a field gives its attribute, None where the field isn't of the form
abbrev pub given_by : Form → List ℕ → Option Given
given_by forms.Number field = option_map (λ n. givens.Num n) (thousandths_of READ_LIMIT field)
given_by forms.Text field = if is_text_field field then Some (givens.Text field) else None
given_by forms.Rate field = option_map (λ a. givens.Rate (one_leg a)) (thousandths_of SLOPE_LIMIT field)
