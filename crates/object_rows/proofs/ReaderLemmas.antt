-- What a read of a record leaves.
use Rattle.std.proofs.Common.{◌≡◌, ℕ, zero, suc, ◌+◌, ◌<◌, ◌≤◌, ◌==◌, ◌∙◌, ◌||◌, Bool, true, false, cond, Bor, Option, Some, None, List, [], ◌∷◌, ◌++◌, length, unwrap_or, refl, ap, sym, arith, add-one, inl}
use Rattle.csv.specs.Machine.{Read, ends_at_end, field_after, fields_after, in_field, is_end, next_record, start_field, start_record, step}
use Rattle.csv.specs.Reading.{NextIs, ReadRecord, ReadsNext, default_config, pending_of, reader_state, records_from, records_next, took_first}
use Rattle.csv.proofs.ReadFacts.{rows-end}
use Rattle.csv.specs.declared.parser.Action.{Action}
use Rattle.csv.specs.declared.parser.Action.TheVariants as acts
use Rattle.csv.specs.declared.parser.State.{State}
use Rattle.csv.specs.declared.parser.State.TheVariants as states
use Rattle.object_rows.specs.Reader.{IsBetweenRecords, SliceReader, left_in, unread_in}

-- ---- A record ends between records

abbrev EndsBetween : State × Action → Type 0
EndsBetween moved = is_end moved.1 ≡ true → ends_at_end moved.0 ≡ false

ended : (carriage : Bool) → ends_at_end (cond carriage states.AfterCr states.StartRecord) ≡ false
ended true = refl
ended false = refl

in_field_ends : (comma line carriage : Bool)
    → EndsBetween (cond comma (states.StartField, acts.EndField)
    (cond line (cond carriage states.AfterCr states.StartRecord, acts.EndRecord) (states.InField, acts.Copy)))
in_field_ends true line carriage h = absurd (cc h)
in_field_ends false true carriage h = ended carriage
in_field_ends false false carriage h = absurd (cc h)

field_ends : (c : ℕ) → EndsBetween (in_field default_config c)
field_ends c = in_field_ends (c == 44) ((c == 13) || (c == 10)) (c == 13)

skips_first : (skips : Bool) (state : State) (moved : State × Action) → EndsBetween moved → EndsBetween (cond skips (state, acts.Skip) moved)
skips_first true state moved later h = absurd (cc h)
skips_first false state moved later h = later h

start_ends : (c : ℕ) → EndsBetween (start_field default_config c)
start_ends c = skips_first (c == 34) states.InQuoted (in_field default_config c) (field_ends c)

begin_ends : (c : ℕ) → EndsBetween (start_record default_config c)
begin_ends c = skips_first ((c == 13) || (c == 10)) states.StartRecord (start_field default_config c) (start_ends c)

quoted_ends : (quote : Bool) → EndsBetween (cond quote (states.AfterQuote, acts.Skip) (states.InQuoted, acts.Copy))
quoted_ends true h = absurd (cc h)
quoted_ends false h = absurd (cc h)

after_quote_ends : (quote : Bool) (c : ℕ) → EndsBetween (cond quote (states.InQuoted, acts.Copy) (in_field default_config c))
after_quote_ends true c h = absurd (cc h)
after_quote_ends false c h = field_ends c h

comment_ends : (line : Bool) → EndsBetween (cond line (states.StartRecord, acts.Skip) (states.InComment, acts.Skip))
comment_ends true h = absurd (cc h)
comment_ends false h = absurd (cc h)

escape_ends : EndsBetween (states.InQuoted, acts.Copy)
escape_ends h = absurd (cc h)

step_ends : (s : State) (c : ℕ) → EndsBetween (step default_config s c)
step_ends states.StartRecord c = begin_ends c
step_ends states.StartField c = start_ends c
step_ends states.InField c = field_ends c
step_ends states.InQuoted c = quoted_ends (c == 34)
step_ends states.InEscape c = escape_ends
step_ends states.AfterQuote c = after_quote_ends (c == 34) c
step_ends states.InComment c = comment_ends (c == 10)
step_ends states.AfterCr c = skips_first (c == 10) states.StartRecord (start_record default_config c) (begin_ends c)

-- ---- What is left after a record

some_same : {A : Type 0} → (x y : A) → Some x ≡ Some y → x ≡ y
some_same x y h = cc h

record LeavesLess (p : Read) (most : ℕ) : Type 0 where
  state : ends_at_end p.1 ≡ false
  less : length p.2 ≤ most

leaves_less : (s : State) (fields : List (List ℕ)) (field text : List ℕ) (p : Read) → next_record default_config s fields field text ≡ Some p
    → LeavesLess p (length text)
unfolding next_record
leaves_less s fields field [] p h = by (ends_at_end s) h
  where
    by : (b : Bool) → cond b (Some (fields ++ (field ∷ []), states.StartRecord, [])) None ≡ Some p → LeavesLess p 0
    by true e =
        let same = some_same (fields ++ (field ∷ []), states.StartRecord, []) p e in
        let rest : [] ≡ p.2 = ap (λ (q : Read). q.2) same in
        record { state = ap (λ (q : Read). ends_at_end q.1) (sym same); less = rw (sym rest) (omega arith) }
    by false e = absurd (cc e)
leaves_less s fields field (c ∷ text) p h =
    by (is_end (step default_config s c).1) refl (leaves_less (step default_config s c).0 (fields_after (step default_config s c).1 fields field)
    (field_after (step default_config s c).1 c field) text p)
  where
    by : (b : Bool) → is_end (step default_config s c).1 ≡ b
        → (next_record default_config (step default_config s c).0 (fields_after (step default_config s c).1 fields field)
        (field_after (step default_config s c).1 c field) text ≡ Some p → LeavesLess p (length text))
        → LeavesLess p (suc (length text))
    by true e later =
        let same = some_same (fields_after (step default_config s c).1 fields field, (step default_config s c).0, text) p (rw e at h) in
        let rest : text ≡ p.2 = ap (λ (q : Read). q.2) same in
        record { state = ap (λ (q : Read). ends_at_end q.1) (sym same) ∙ step_ends s c e; less = rw (sym rest) (omega arith) }
    by false e later = let l = later (rw e at h) in record { state = l.state; less = omega (arith, l.less) }

begins_in : (s : State) (text : List ℕ) (p : Read) → ends_at_end s ≡ false → next_record default_config s [] [] text ≡ Some p → length p.2 < length text
unfolding next_record
begins_in s [] p between h = absurd (cc (rw between at h))
begins_in s (c ∷ text) p between h = by (is_end (step default_config s c).1) refl
  where
    by : (b : Bool) → is_end (step default_config s c).1 ≡ b → length p.2 < suc (length text)
    by true e =
        let same = some_same (fields_after (step default_config s c).1 [] [], (step default_config s c).0, text) p (rw e at h) in
        let rest : text ≡ p.2 = ap (λ (q : Read). q.2) same in
        rw (sym rest) (omega arith)
    by false e =
        let l = leaves_less (step default_config s c).0 (fields_after (step default_config s c).1 [] []) (field_after (step default_config s c).1 c []) text
        p (rw e at h) in
        omega (arith, l.less)

-- ---- The records of a text don't hang on how many are asked for, if there are enough

same_next : (m n : ℕ) (o : Option Read) → ((p : Read) → o ≡ Some p → records_from default_config m p.1 p.2 ≡ records_from default_config n p.1 p.2)
    → records_next (records_from default_config m) o ≡ records_next (records_from default_config n) o
same_next m n None later = refl
same_next m n (Some p) later = ap (λ rows. p.0 ∷ rows) (later p refl)

enough : (m n : ℕ) (s : State) (text : List ℕ) → ends_at_end s ≡ false → length text < m → length text < n
    → records_from default_config m s text ≡ records_from default_config n s text
unfolding records_from
enough zero n s text between first second = absurd (omega (arith, first))
enough (suc m) zero s text between first second = absurd (omega (arith, second))
enough (suc m) (suc n) s text between first second =
    same_next m n (next_record default_config s [] [] text) (λ p next.
    let l = leaves_less s [] [] text p next in
    let shorter = begins_in s text p between next in
    enough m n p.1 p.2 l.state (omega (arith, first, shorter)) (omega (arith, second, shorter)))

records_none : (s : State) (text : List ℕ) → next_record default_config s [] [] text ≡ None → records_from default_config (length text + 1) s text ≡ []
unfolding records_from
records_none s text h =
    ap (λ n. records_from default_config n s text) (add-one (length text)) ∙ ap (records_next (records_from default_config (length text))) h

records_some : (s : State) (text : List ℕ) (p : Read) → ends_at_end s ≡ false → next_record default_config s [] [] text ≡ Some p
    → records_from default_config (length text + 1) s text ≡ p.0 ∷ records_from default_config (length p.2 + 1) p.1 p.2
unfolding records_from
records_some s text p between h =
    let l = leaves_less s [] [] text p h in
    let shorter = begins_in s text p between h in
    ap (λ n. records_from default_config n s text) (add-one (length text))
    ∙ ap (records_next (records_from default_config (length text))) h
    ∙ ap (λ rows. p.0 ∷ rows) (enough (length text) (length p.2 + 1) p.1 p.2 l.state shorter (omega arith))

-- ---- Reads of a reader

abbrev bytes_of : Bor (List ℕ) → Option (List ℕ)
bytes_of bytes = Some bytes.now

abbrev left_from : State → Option (List ℕ) → List (List (List ℕ))
left_from s unread = let text = unwrap_or unread [] in records_from default_config (length text + 1) s text

pub read_nothing : (a b : SliceReader) (fields : List (List ℕ)) → IsBetweenRecords a → ReadRecord bytes_of a b false fields → left_in a ≡ []
read_nothing a b fields between r =
    ap (left_from (reader_state a)) between.known
    ∙ records_none (reader_state a) between.text (rows-end bytes_of a b fields default_config between.text between.config between.known r)

pub record TakesOne (a b : SliceReader) (fields : List (List ℕ)) : Type 0 where
  pub between : IsBetweenRecords b
  pub left : left_in a ≡ fields ∷ left_in b

pub read_something : (a b : SliceReader) (fields : List (List ℕ)) → IsBetweenRecords a → ReadRecord bytes_of a b true fields → took_first b ≡ true
    → TakesOne a b fields
read_something a b fields between r took =
    by_text (pending_of (bytes_of b.rdr) b) (rw r.1 refl) (rw (between.config, between.known) at r.0)
  where
    by_record : (left : List ℕ) (o : Option Read) → unread_in b ≡ Some left → next_record default_config (reader_state a) [] [] between.text ≡ o
        → NextIs o true fields (reader_state b) left → TakesOne a b fields
    by_record left None known next is = absurd (cc is)
    by_record left (Some p) known next is =
        let l = leaves_less (reader_state a) [] [] between.text p next in
        let same : left_from p.1 (Some p.2) ≡ left_in b =
        ap (left_from p.1) (ap Some (sym is.3) ∙ sym known) ∙ ap (λ s. left_from s (unread_in b)) (sym is.2) in
        record {
          between = record {
            config = r.2 ∙ between.config;
            trim = r.3 ∙ between.trim;
            ready = inl took;
            state = ap ends_at_end is.2 ∙ l.state;
            text = left;
            known = known;
          };
          left = ap (left_from (reader_state a)) between.known
              ∙ records_some (reader_state a) between.text p between.state next
              ∙ ap (λ rows. p.0 ∷ rows) same
              ∙ ap (λ f. f ∷ left_in b) (sym is.1);
        }

    by_text : (left : Option (List ℕ)) → unread_in b ≡ left
        → ReadsNext default_config (reader_state a) (Some between.text) left true fields (reader_state b) → TakesOne a b fields
    by_text None known reads = absurd reads
    by_text (Some left) known reads = by_record left (next_record default_config (reader_state a) [] [] between.text) known refl reads

-- what a read of a row shows
pub record LeavesRow (a b : SliceReader) (found : Bool) (fields : List (List ℕ)) : Type 0 where
  pub between : found ≡ true → IsBetweenRecords b
  pub left : left_in a ≡ cond found (fields ∷ left_in b) []

pub read_row : (a b : SliceReader) (found : Bool) (fields : List (List ℕ)) → IsBetweenRecords a → ReadRecord bytes_of a b found fields → took_first b ≡ true
    → LeavesRow a b found fields
read_row a b true fields between r took = let one = read_something a b fields between r took in record { between = λ h. one.between; left = one.left }
read_row a b false fields between r took = record { between = λ h. absurd (cc h); left = read_nothing a b fields between r }
