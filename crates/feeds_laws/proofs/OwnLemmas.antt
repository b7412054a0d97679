-- What a user's own command leaves of a copy.
use Rattle.std.proofs.Common.{◌≡◌, ◌∙◌, ℕ, true, false, not, List, [], ◌∷◌, ◌++◌, option_map, Option, Some, None, refl, ap, sym, subst, append-nil, inl, inr}
use Rattle.std.proofs.lemmas.Bool.{cases_Bool, false≢true}
use Rattle.std.proofs.lemmas.Slice.Eq.{bytes_eq-Decides}
use Rattle.std.specs.Prelude.{filter}
use Rattle.std.specs.List.{flat_map}
use Rattle.std.specs.Option.{option_map_or}
use Rattle.std.specs.Str.{bytes_eq}
use Rattle.formula.specs.declared.kind.QueryKind.TheVariants as kinds
use Rattle.history.specs.World.{World}
use Rattle.meaning.specs.Registered.{registered_answer}
use Rattle.meaning.specs.Answer.{Row}
use Rattle.command_text.specs.Journal.{Accepted, clock, is_kept, ticks_of}
use Rattle.command_text.specs.Shape.{IsPrintable}
use Rattle.command_text.specs.Tree
use Rattle.command_text.specs.Tree.{CommandTree}
use Rattle.line_meaning.specs.Answering.{kept_lines}
use Rattle.line_meaning.specs.Ask.{rows_asked}
use Rattle.line_meaning.specs.Blurred.{rows_blurred}
use Rattle.line_meaning.specs.Changes.{answer_text}
use Rattle.line_meaning.specs.Indexed.{rows_ranged}
use Rattle.line_meaning.specs.Journal.{regions_of, world, writes_of}
use Rattle.line_meaning.specs.Judging.{Held, fault_of, held_after}
use Rattle.line_meaning.specs.Near.{rows_near}
use Rattle.line_meaning.specs.QueryFault.{command_fault}
use Rattle.line_meaning.specs.Registry.{Registration, has_name, is_registered, known, live_after, registered, registration, registration_named}
use Rattle.line_meaning.specs.Reply.{listing, ok_line, registration_line, rows_text}
use Rattle.line_meaning.proofs.JournalLemmas.{registered_more}
use Rattle.line_meaning.proofs.ReachedLemmas.{none_of_both}
use Rattle.feeds_meaning.specs.Heard.{own_text}
use Rattle.feeds_meaning.specs.Lines.{is_barred, is_data, notice, start_line, stop_line}
use Rattle.replica.specs.Copied.{at_clock}
use Rattle.replica.specs.Text.{is_free_name}
use Rattle.replica.specs.declared.copied.Copied.{Copied}
use Rattle.feeds_laws.proofs.AnswerLemmas.{other_start, other_stop, rows_stay, stop_leads}
use Rattle.feeds_laws.proofs.CopyLemmas.{AgreesBy, Goes, begun_text, other_dropped, own, own_added, own_dropped, own_kept, start_goes}
use Rattle.feeds_laws.proofs.FineLemmas.{registration_right, IsFine, IsRight, is_new, short_is_name, world_stays}
use Rattle.feeds_laws.proofs.KeyLemmas.{all_mapped}
use Rattle.feeds_laws.proofs.QuietLemmas.{listing_stays, ok_leads, registrations_stay}
use Rattle.feeds_laws.proofs.ReadingLemmas.{Leads, both_lead, nothing_leads}
use Rattle.feeds_laws.proofs.ItemLemmas.{AgreesWith, DataGoes, Laws, agrees_as, data_goes, next, same_clock}
use Rattle.exact.proofs.Items.{bytes_differ_swap}

-- the copy has the clock
same_copy : (w : World) (now : ℕ) (regs : List Registration) (copy : Option Copied) → AgreesBy w now regs copy → option_map (at_clock now) copy ≡ copy
same_copy w now [] copy none = ap (option_map (at_clock now)) none ∙ sym none
same_copy w now (r ∷ []) copy has = ap (option_map (at_clock now)) has.is ∙ sym has.is
same_copy w now (r ∷ s ∷ later) copy has = absurd has

-- a command that is kept and that nothing refuses
pub kept_fault : (h : Held) (c : CommandTree) → is_kept c ≡ true → fault_of h c ≡ None → command_fault (known h.journal) c ≡ None
kept_fault h (Tree.Class class capacity point attributes) kept none = (none_of_both (command_fault (known h.journal) (Tree.Class class capacity point attributes)) _ none).0
kept_fault h (Tree.Region region points) kept none = (none_of_both (command_fault (known h.journal) (Tree.Region region points)) _ none).0
kept_fault h (Tree.Insert class object place sets) kept none = (none_of_both (command_fault (known h.journal) (Tree.Insert class object place sets)) _ none).0
kept_fault h (Tree.Update object place sets) kept none = (none_of_both (command_fault (known h.journal) (Tree.Update object place sets)) _ none).0
kept_fault h (Tree.Remove object) kept none = (none_of_both (command_fault (known h.journal) (Tree.Remove object)) _ none).0
kept_fault h (Tree.Tick ticks) kept none = (none_of_both (command_fault (known h.journal) (Tree.Tick ticks)) _ none).0
kept_fault h (Tree.Watch query span q) kept none = (none_of_both (command_fault (known h.journal) (Tree.Watch query span q)) _ none).0
kept_fault h (Tree.Keep query span q) kept none = (none_of_both (command_fault (known h.journal) (Tree.Keep query span q)) _ none).0
kept_fault h (Tree.Drop query) kept none = (none_of_both (command_fault (known h.journal) (Tree.Drop query)) _ none).0
kept_fault h c kept none = absurd (false≢true kept)

-- what is told of an own command, and that the copy agrees with the journal after it
abbrev pub OwnGoes : List ℕ → Held → CommandTree → Option Copied → Type 0
OwnGoes name h c copy =
    Goes name (own_text h c) copy (world (held_after h c).journal) (clock (held_after h c).journal) (own name (registered (held_after h c).journal))

module _ (laws : Laws) (name : List ℕ) (is : is_free_name name ≡ true) (h : Held) (fine : IsFine h.journal) (copy : Option Copied) (agrees : AgreesWith name h.journal copy) where
  abbrev j : List Accepted
  j = h.journal

  -- a data command, and then `ok`
  data_ok : (c : CommandTree) → DataGoes name (notice h c) (kept_lines (known j) (known (held_after h c).journal) c) copy (held_after h c).journal →
      Goes name (notice h c ++ (kept_lines (known j) (known (held_after h c).journal) c ++ ok_line)) copy (world (held_after h c).journal) (clock (held_after h c).journal) (own name (registered (held_after h c).journal))
  data_ok c goes =
      let lines = kept_lines (known j) (known (held_after h c).journal) c in
      record {
        after = goes.after;
        leads =
            both_lead name (notice h c) (lines ++ ok_line) (copy, false) (goes.mid, false) (goes.after, false) goes.first
            (both_lead name lines ok_line (goes.mid, false) (goes.after, false) (goes.after, false) goes.second (ok_leads name is goes.after false));
        agrees = goes.agrees;
      }

  -- where nothing is kept
  told : (text : List ℕ) → Leads name text (copy, false) (copy, false) → Goes name (text ++ ok_line) copy (world (j ++ [])) (clock (j ++ [])) (own name (registered (j ++ [])))
  told text leads = record {
    after = copy;
    leads = both_lead name text ok_line (copy, false) (copy, false) (copy, false) leads (ok_leads name is copy false);
    agrees = subst (λ (k : List Accepted). AgreesWith name k copy) (sym (append-nil j)) agrees;
  }

  pair : (text more : List ℕ) → Leads name text (copy, false) (copy, false) → Leads name more (copy, false) (copy, false) → Leads name (text ++ more) (copy, false) (copy, false)
  pair text more first later = both_lead name text more (copy, false) (copy, false) (copy, false) first later

  quiet : Leads name [] (copy, false) (copy, false)
  quiet = nothing_leads name (copy, false)

  rows : (answer : List Row) → Leads name (rows_text (world j).history.catalog (clock j) answer) (copy, false) (copy, false)
  rows answer = rows_stay name copy (world j).history.catalog fine.objects (clock j) answer

  shown : (o : Option Registration) → Leads name (option_map_or (answer_text (world j) (clock j)) o []) (copy, false) (copy, false)
  shown None = quiet
  shown (Some r) = rows (registered_answer (world j) r.query (clock j))

  -- ---- Queries that are registered or dropped

  regs_next : (c : CommandTree) (regs : List Registration) → live_after (world j) (clock j) (registered j) c ≡ regs → own name (registered (next j c)) ≡ own name regs
  regs_next c regs e = ap (own name) (registered_more j (clock j) c ∙ e)

  started : (c : CommandTree) (r : Registration) → ticks_of c ≡ 0 → writes_of (clock j) c ≡ [] → regions_of c ≡ [] → live_after (world j) (clock j) (registered j) c ≡ registered j ++ r ∷ [] →
      IsRight r → is_registered (registered j) r.name ≡ false →
      Goes name (begun_text (world j) (clock j) r) copy (world (next j c)) (clock (next j c)) (own name (registered (next j c)))
  started c r none no_writes no_regions regs right new = elim (cases_Bool (has_name name r)) [
    | inl own_r ↦
        let same : name ≡ r.name = (bytes_eq-Decides name r.name).0 own_r in
        let goes = start_goes (world j) fine.objects (clock j) fine.last r right copy in
        record {
          after = goes.after;
          leads = subst (λ (n : List ℕ). Leads n (begun_text (world j) (clock j) r) (copy, false) (goes.after, false)) (sym same) goes.leads;
          agrees = agrees_as (world j) (world (next j c)) (sym (world_stays j c no_writes no_regions)) (clock j) (clock (next j c)) (same_clock j c none) (r ∷ []) (own name (registered (next j c)))
              (sym (regs_next c (registered j ++ r ∷ []) regs ∙ ap (λ n. own n (registered j ++ r ∷ [])) same ∙ own_added (registered j) r new)) goes.after goes.agrees;
        }
    | inr other ↦
        let differs : bytes_eq r.name name ≡ false = bytes_differ_swap name r.name other in
        record {
          after = copy;
          leads = pair (start_line r.query.kind r.name (clock j)) (answer_text (world j) (clock j) r ++ ok_line) (other_start name is r.name right.named differs copy r.query.kind (clock j))
              (both_lead name (answer_text (world j) (clock j) r) ok_line (copy, false) (copy, false) (copy, false) (rows (registered_answer (world j) r.query (clock j))) (ok_leads name is copy false));
          agrees = agrees_as (world j) (world (next j c)) (sym (world_stays j c no_writes no_regions)) (clock j) (clock (next j c)) (same_clock j c none) (own name (registered j)) (own name (registered (next j c)))
              (sym (regs_next c (registered j ++ r ∷ []) regs ∙ own_kept name (registered j) r other)) copy agrees;
        }
  ]

  dropped : (query : List ℕ) → is_free_name query ≡ true → Goes name (stop_line query ++ ok_line) copy (world (next j (Tree.Drop query))) (clock (next j (Tree.Drop query))) (own name (registered (next j (Tree.Drop query))))
  dropped query query_is =
      let c = Tree.Drop query in
      let regs : List Registration = filter (λ r. not (has_name query r)) (registered j) in
      elim (cases_Bool (bytes_eq query name)) [
        | inl same ↦
            let is_it : query ≡ name = (bytes_eq-Decides query name).0 same in
            record {
              after = None;
              leads =
                  both_lead name (stop_line query) ok_line (copy, false) (None, false) (None, false)
                  (subst (λ (n : List ℕ). Leads name (stop_line n) (copy, false) (None, false)) (sym is_it) (stop_leads name is (copy, false))) (ok_leads name is None false);
              agrees = agrees_as (world (next j c)) (world (next j c)) refl (clock (next j c)) (clock (next j c)) refl [] (own name (registered (next j c)))
                  (sym (regs_next c regs refl ∙ ap (λ n. own n regs) (sym is_it) ∙ own_dropped query (registered j))) None refl;
            }
        | inr differs ↦
            record {
              after = copy;
              leads = pair (stop_line query) ok_line (other_stop name is query query_is differs copy) (ok_leads name is copy false);
              agrees = agrees_as (world j) (world (next j c)) (sym (world_stays j c refl refl)) (clock j) (clock (next j c)) (same_clock j c refl) (own name (registered j)) (own name (registered (next j c)))
                  (sym (regs_next c regs refl ∙ other_dropped name query differs (registered j))) copy agrees;
            }
      ]

  -- ---- All commands

  by_data : (c : CommandTree) → is_data c ≡ true → is_kept c ≡ true → IsPrintable c → fault_of h c ≡ None →
      DataGoes name (notice h c) (kept_lines (known j) (known (held_after h c).journal) c) copy (held_after h c).journal
  by_data c kind kept printable none = data_goes laws name is h fine copy agrees c kind printable (kept_fault h c kept none)

  pub own_goes : (c : CommandTree) → IsPrintable c → is_barred c ≡ false → fault_of h c ≡ None → OwnGoes name h c copy
  own_goes Tree.Nothing printable free none = record {
    after = copy;
    leads = quiet;
    agrees = subst (λ (k : List Accepted). AgreesWith name k copy) (sym (append-nil j)) agrees;
  }
  own_goes (Tree.Class class capacity point attributes) printable free none = let c = Tree.Class class capacity point attributes in data_ok c (by_data c refl refl printable none)
  own_goes (Tree.Region region points) printable free none = let c = Tree.Region region points in data_ok c (by_data c refl refl printable none)
  own_goes (Tree.Insert class object place sets) printable free none = let c = Tree.Insert class object place sets in data_ok c (by_data c refl refl printable none)
  own_goes (Tree.Update object place sets) printable free none = let c = Tree.Update object place sets in data_ok c (by_data c refl refl printable none)
  own_goes (Tree.Remove object) printable free none = let c = Tree.Remove object in data_ok c (by_data c refl refl printable none)
  own_goes (Tree.Tick ticks) printable free none = let c = Tree.Tick ticks in data_ok c (by_data c refl refl printable none)
  own_goes (Tree.Watch query span q) printable free none =
      let c = Tree.Watch query span q in
      let fault = kept_fault h c refl none in
      started c (registration kinds.Watch (world j) (clock j) query span q) refl refl refl refl
      (registration_right laws.right kinds.Watch (known j) query span q printable.1.0 printable.1.1.1.lawful fault) (is_new (known j) query span q fault)
  own_goes (Tree.Keep query span q) printable free none =
      let c = Tree.Keep query span q in
      let fault = kept_fault h c refl none in
      started c (registration kinds.Keep (world j) (clock j) query span q) refl refl refl refl
      (registration_right laws.right kinds.Keep (known j) query span q printable.1.0 printable.1.1.1.lawful fault) (is_new (known j) query span q fault)
  own_goes (Tree.Drop query) printable free none = dropped query (short_is_name query printable.1)
  own_goes Tree.Listing printable free none =
      told (listing (clock j) (world j).history.catalog (world j).regions ++ flat_map registration_line (registered j))
      (pair (listing (clock j) (world j).history.catalog (world j).regions) (flat_map registration_line (registered j))
      (listing_stays name is copy (clock j) fine.last (same_copy (world j) (clock j) (own name (registered j)) copy agrees) (world j).history.catalog fine.classes (world j).regions fine.regions)
      (registrations_stay name is copy (registered j) (all_mapped IsRight (λ r. is_free_name r.name ≡ true) (λ r right. right.named) (registered j) fine.live)))
  own_goes (Tree.Ask span q) printable free none =
      let answer = rows_asked (world j) (clock j) span q in
      told (rows_text (world j).history.catalog (clock j) answer ++ []) (pair (rows_text (world j).history.catalog (clock j) answer) [] (rows answer) quiet)
  own_goes (Tree.Show query) printable free none = told (option_map_or (answer_text (world j) (clock j)) (registration_named (registered j) query) []) (shown (registration_named (registered j) query))
  own_goes (Tree.Nearest span n object class) printable free none =
      let answer = rows_near (world j) (clock j) span n object class in
      told (rows_text (world j).history.catalog (clock j) answer ++ []) (pair (rows_text (world j).history.catalog (clock j) answer) [] (rows answer) quiet)
  own_goes (Tree.Must error span q) printable free none =
      let answer = rows_blurred true (world j) (clock j) span error q in
      told (rows_text (world j).history.catalog (clock j) answer ++ []) (pair (rows_text (world j).history.catalog (clock j) answer) [] (rows answer) quiet)
  own_goes (Tree.May error span q) printable free none =
      let answer = rows_blurred false (world j) (clock j) span error q in
      told (rows_text (world j).history.catalog (clock j) answer ++ []) (pair (rows_text (world j).history.catalog (clock j) answer) [] (rows answer) quiet)
  own_goes (Tree.Index class attribute width) printable free none = told [] quiet
  own_goes (Tree.Range span class attribute least greatest) printable free none =
      let answer = rows_ranged (world j) (clock j) span class attribute least greatest in
      told (rows_text (world j).history.catalog (clock j) answer) (rows answer)
  own_goes (Tree.Save file) printable free none = absurd (false≢true (sym free))
  own_goes (Tree.Import class file) printable free none = absurd (false≢true (sym free))
  own_goes (Tree.Export class file) printable free none = absurd (false≢true (sym free))
  own_goes Tree.Quit printable free none = absurd (false≢true (sym free))
