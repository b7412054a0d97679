-- Replies that say nothing of a query leave its copy.
use Rattle.std.proofs.Common.{◌≡◌, ℕ, ◌+◌, ◌≤◌, Bool, true, false, List, [], ◌∷◌, ◌++◌, codes, option_map, Option, refl, subst}
use Rattle.std.specs.Fmt.{decimal}
use Rattle.std.specs.Prelude.{length}
use Rattle.std.specs.List.{AllByRecursion, enumerate_from, flat_map}
use Rattle.case_table.specs.Language.{refusal_names}
use Rattle.formula.specs.declared.kind.QueryKind.{QueryKind}
use Rattle.formula.specs.declared.kind.QueryKind.TheVariants.{Watch, Keep}
use Rattle.formula.specs.Kinds.{kind_word}
use Rattle.geometry.specs.Region.{Region}
use Rattle.tick_set.specs.declared.spans.TheConstants.{LAST_TICK}
use Rattle.history.specs.Catalog.{Catalog, ClassInfo, names}
use Rattle.command_text.specs.Refusals.{refusal_line, refusal_name, refusal_number}
use Rattle.command_text.specs.declared.refusal.Refusal.{Refusal}
use Rattle.command_text.specs.declared.refusal.Refusal.TheVariants as refusals
use Rattle.line_meaning.specs.Registry.{Registration}
use Rattle.line_meaning.specs.Reply.{class_counts, class_line, clock_line, line_feed, listing, name_text, ok_line, query_line, region_counts, region_line, registration_line, run_text}
use Rattle.replica.specs.Copied.{at_clock}
use Rattle.replica.specs.Line.{Nothing, Passes}
use Rattle.replica.specs.Text.{is_free_name}
use Rattle.replica.specs.declared.copied.Copied.{Copied}
use Rattle.replica.proofs.CallerLemmas.{reads}
use Rattle.feeds_laws.proofs.ReadingLemmas.{Leads, both_lead, has_no_feed, line_leads, nothing_leads}
use Rattle.feeds_laws.proofs.TextLemmas.{decimal_free, free_both, name_free}

refusal_free : (r : Refusal) → has_no_feed (refusal_name r) ≡ true
unfolding refusal_names
refusal_free refusals.LineTooLong = refl
refusal_free refusals.NotAscii = refl
refusal_free refusals.BadToken = refl
refusal_free refusals.BadSyntax = refl
refusal_free refusals.NumberRange = refl
refusal_free refusals.TooLarge = refl
refusal_free refusals.UnknownName = refl
refusal_free refusals.NameTaken = refl
refusal_free refusals.WrongKind = refl
refusal_free refusals.NotConvex = refl
refusal_free refusals.TermRange = refl
refusal_free refusals.SpanRange = refl
refusal_free refusals.ClockEnd = refl
refusal_free refusals.Presence = refl
refusal_free refusals.ClassFull = refl
refusal_free refusals.StoreFull = refl
refusal_free refusals.BindingLimit = refl
refusal_free refusals.JournalFull = refl
refusal_free refusals.NoFile = refl
refusal_free refusals.BadFile = refl

module _ (name : List ℕ) (is : is_free_name name ≡ true) where
  -- `ok` ends the rows of a start
  pub ok_leads : (copy : Option Copied) (starting : Bool) → Leads name ok_line (copy, starting) (copy, false)
  ok_leads copy starting = line_leads name (codes "ok") Nothing (copy, starting) refl ((reads name is).of_one_word (codes "ok") refl refl) refl

  pub clock_leads : (now : ℕ) → now ≤ LAST_TICK → (copy : Option Copied) → Leads name (clock_line now) (copy, false) (option_map (at_clock now) copy, false)
  clock_leads now within copy =
      line_leads name (codes "clock " ++ decimal now) (Passes now) (copy, false) (free_both (codes "clock ") (decimal now) refl (decimal_free now)) ((reads name is).clocks now within) refl

  module _ (copy : Option Copied) where
    pub refusal_stays : (r : Refusal) → Leads name (refusal_line r ++ line_feed) (copy, false) (copy, false)
    unfolding refusal_line
    refusal_stays r =
        line_leads name (((codes "refused " ++ decimal (refusal_number r)) ++ codes " ") ++ refusal_name r) Nothing (copy, false)
        (free_both ((codes "refused " ++ decimal (refusal_number r)) ++ codes " ") (refusal_name r)
        (free_both (codes "refused " ++ decimal (refusal_number r)) (codes " ") (free_both (codes "refused ") (decimal (refusal_number r)) refl (decimal_free (refusal_number r))) refl) (refusal_free r))
        ((reads name is).passed_over (codes "refused") ((decimal (refusal_number r) ++ codes " ") ++ refusal_name r) refl refl) refl

    class_stays : (own : List ℕ) → is_free_name own ≡ true → (count capacity : ℕ) → Leads name (class_counts own count capacity) (copy, false) (copy, false)
    class_stays own own_is count capacity =
        line_leads name (((((codes "class " ++ own) ++ codes " ") ++ decimal count) ++ codes "/") ++ decimal capacity) Nothing (copy, false)
        (free_both ((((codes "class " ++ own) ++ codes " ") ++ decimal count) ++ codes "/") (decimal capacity)
        (free_both (((codes "class " ++ own) ++ codes " ") ++ decimal count) (codes "/")
        (free_both ((codes "class " ++ own) ++ codes " ") (decimal count)
        (free_both (codes "class " ++ own) (codes " ") (free_both (codes "class ") own refl (name_free own own_is)) refl) (decimal_free count)) refl) (decimal_free capacity))
        ((reads name is).passed_over (codes "class") ((((own ++ codes " ") ++ decimal count) ++ codes "/") ++ decimal capacity) refl refl) refl

    region_stays : (own : List ℕ) → is_free_name own ≡ true → (points : ℕ) → Leads name (region_counts own points) (copy, false) (copy, false)
    region_stays own own_is points =
        line_leads name (((codes "region " ++ own) ++ codes " ") ++ decimal points) Nothing (copy, false)
        (free_both ((codes "region " ++ own) ++ codes " ") (decimal points)
        (free_both (codes "region " ++ own) (codes " ") (free_both (codes "region ") own refl (name_free own own_is)) refl) (decimal_free points))
        ((reads name is).passed_over (codes "region") ((own ++ codes " ") ++ decimal points) refl refl) refl

    query_free : (word own : List ℕ) → has_no_feed word ≡ true → is_free_name own ≡ true → (entry expiry : ℕ) → has_no_feed ((word ++ name_text own) ++ run_text (entry, expiry)) ≡ true
    query_free word own word_free own_is entry expiry =
        free_both (word ++ name_text own) (run_text (entry, expiry)) (free_both word (name_text own) word_free (name_free own own_is))
        (free_both ((codes " " ++ decimal entry) ++ codes "..") (decimal expiry) (free_both (codes " " ++ decimal entry) (codes "..") (decimal_free entry) refl) (decimal_free expiry))

    registration_stays : (kind : QueryKind) (own : List ℕ) → is_free_name own ≡ true → (entry expiry : ℕ) → Leads name (query_line (kind_word kind) own entry expiry) (copy, false) (copy, false)
    registration_stays Watch own own_is entry expiry =
        line_leads name ((codes "watch" ++ name_text own) ++ run_text (entry, expiry)) Nothing (copy, false) (query_free (codes "watch") own refl own_is entry expiry)
        ((reads name is).passed_over (codes "watch") (own ++ run_text (entry, expiry)) refl refl) refl
    registration_stays Keep own own_is entry expiry =
        line_leads name ((codes "keep" ++ name_text own) ++ run_text (entry, expiry)) Nothing (copy, false) (query_free (codes "keep") own refl own_is entry expiry)
        ((reads name is).passed_over (codes "keep") (own ++ run_text (entry, expiry)) refl refl) refl

    -- lines of a list, each of which leaves the copy
    pub lines_stay : {X : Type 0} (P : X → Type 0) (text : X → List ℕ) → ((x : X) → P x → Leads name (text x) (copy, false) (copy, false)) → (xs : List X) → AllByRecursion P xs → Leads name (flat_map text xs) (copy, false) (copy, false)
    lines_stay P text stays [] all = nothing_leads name (copy, false)
    lines_stay P text stays (x ∷ xs) all = both_lead name (text x) (flat_map text xs) (copy, false) (copy, false) (copy, false) (stays x all.0) (lines_stay P text stays xs all.1)

    class_lines_stay : (c : Catalog) (from : ℕ) (classes : List ClassInfo) → AllByRecursion (λ k. is_free_name k.name ≡ true) classes → Leads name (flat_map (class_line c) (enumerate_from from classes)) (copy, false) (copy, false)
    class_lines_stay c from [] all = nothing_leads name (copy, false)
    class_lines_stay c from (k ∷ classes) all =
        both_lead name (class_line c (from, k)) (flat_map (class_line c) (enumerate_from (from + 1) classes)) (copy, false) (copy, false) (copy, false)
        (class_stays k.name all.0 (length (names c from)) k.capacity) (class_lines_stay c (from + 1) classes all.1)

    pub registrations_stay : (live : List Registration) → AllByRecursion (λ r. is_free_name r.name ≡ true) live → Leads name (flat_map registration_line live) (copy, false) (copy, false)
    registrations_stay live all = lines_stay (λ (r : Registration). is_free_name r.name ≡ true) registration_line (λ r named. registration_stays r.query.kind r.name named r.query.entry r.query.expiry) live all

    -- a `list` tells the clock that the copy has
    pub listing_stays : (now : ℕ) → now ≤ LAST_TICK → option_map (at_clock now) copy ≡ copy → (c : Catalog) → AllByRecursion (λ k. is_free_name k.name ≡ true) c.classes →
        (regions : List Region) → AllByRecursion (λ r. is_free_name r.name ≡ true) regions → Leads name (listing now c regions) (copy, false) (copy, false)
    listing_stays now within same c classes regions are =
        let clock : Leads name (clock_line now) (copy, false) (copy, false) = subst (λ (o : Option Copied). Leads name (clock_line now) (copy, false) (o, false)) same (clock_leads now within copy) in
        both_lead name (clock_line now ++ flat_map (class_line c) (enumerate_from 0 c.classes)) (flat_map region_line regions) (copy, false) (copy, false) (copy, false)
        (both_lead name (clock_line now) (flat_map (class_line c) (enumerate_from 0 c.classes)) (copy, false) (copy, false) (copy, false) clock (class_lines_stay c 0 c.classes classes))
        (lines_stay (λ (r : Region). is_free_name r.name ≡ true) region_line (λ r named. region_stays r.name named (length r.points)) regions are)
