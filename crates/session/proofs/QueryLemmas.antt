-- The registered queries once one is added or dropped.
use Rattle.std.proofs.Common.{◌≡◌, ℕ, ◌≤◌, Bool, true, false, not, ◌||◌, Option, None, List, [], ◌∷◌, ◌++◌, map, refl, sym, ap, ◌∙◌, subst, append-nil, arith, if◌then◌else◌}
use Rattle.std.specs.Prelude.{All, length, Ok, Err}
use Rattle.std.specs.List.{filter, list_any}
use Rattle.std.specs.Str.{bytes_eq}
use Rattle.std.proofs.lemmas.Bool.{or_parts}
use Rattle.std.proofs.lemmas.List.{map-append}
use Rattle.std.proofs.lemmas.List.Elements.{All-append, All-cons, All-filter, All-nil}
use Rattle.std.proofs.lemmas.Slice.Eq.{bytes_eq-Decides}
use Rattle.std.specs.Cmp.Lexicographic.{nat_list_eq_equiv}
use Rattle.formula.specs.declared.kind.QueryKind.{QueryKind}
use Rattle.formula.specs.declared.kind.QueryKind.TheVariants.{Keep, Watch}
use Rattle.formula.specs.Tree.{ResolvedQuery}
use Rattle.history.specs.World.{World}
use Rattle.command_text.specs.declared.fault.CommandFault.{CommandFault}
use Rattle.command_text.specs.declared.fault.CommandFault.TheVariants as stops
use Rattle.command_text.specs.declared.refusal.Refusal.{Refusal}
use Rattle.command_text.specs.declared.refusal.Refusal.TheVariants as refusals
use Rattle.command_text.specs.Journal.{Accepted, bytes_of, clock, is_kept, ticks_of}
use Rattle.command_text.specs.Shape.{IsPrintable}
use Rattle.command_text.specs.Text.{text_of}
use Rattle.command_text.specs.Tree
use Rattle.command_text.specs.Tree.{CommandTree}
use Rattle.exact.specs.First.{first_that_holds, or_else}
use Rattle.ftl_parser.specs.Lawful.{IsLawful}
use Rattle.ftl_parser.specs.Tree.{QueryTree, query_view}
use Rattle.tick_set.specs.declared.spans.TheConstants.{LAST_TICK}
use Rattle.session_file.specs.declared.kept.TheConstants.{SESSION_LINE_LIMIT}
use Rattle.line_meaning.specs.Answering.{kept_lines}
use Rattle.line_meaning.specs.Ask.{query_in}
use Rattle.line_meaning.specs.Changes.{answer_text}
use Rattle.line_meaning.specs.Fault.{passes_limits}
use Rattle.line_meaning.specs.FirstFault.{register_size_refusal, type_refusal, unknown_among}
use Rattle.line_meaning.specs.Journal.{regions_of, world, writes_of}
use Rattle.line_meaning.specs.Looks.{is_query, most_looks, most_reads}
use Rattle.line_meaning.specs.QueryFault.{command_fault, register_refusal}
use Rattle.line_meaning.specs.Registry.{Known, Registration, has_name, is_registered, known, live_after, registered, registration}
use Rattle.line_meaning.specs.Step.{fault_of, held}
use Rattle.line_meaning.proofs.RefusalLemmas.{registered_by_fault}
use Rattle.line_meaning.proofs.LoadingLemmas.{first_none}
use Rattle.line_meaning.proofs.ReachedLemmas.{none_of_both}
use Rattle.live_queries.specs.Asked.{FitsWorld}
use Rattle.live_queries.specs.Current.{IsCurrentFor}
use Rattle.live_queries.specs.Kept.{KeptQuery}
use Rattle.live_queries.specs.Registering.{AddsQuery}
use Rattle.live_queries.specs.Told.{Info, info_of}
use Rattle.database.specs.declared.database.Database.{Database}
use Rattle.database.specs.Keeping.{Keeps, clock_of, world_of_database}
use Rattle.database.specs.Telling.{IsStoppedBy}
use Rattle.database.proofs.ReadyLemmas.{is_ready}
use Rattle.registry.specs.declared.registering.Request.{Request}
use Rattle.registry.specs.Registers.{info_for}
use Rattle.registry.specs.Standing.{Stand, known_of, registration_of}
use Rattle.session.specs.Asked.{command_by, request_command}
use Rattle.session.specs.declared.state.State.{State}
use Rattle.session.specs.Carried.{IsAccepted, IsStopped}
use Rattle.session.specs.Entering.{Admits}
use Rattle.session.specs.State.{IsState}
use Rattle.session.proofs.FaultLemmas.{accepted, accepted_kept, stopped_by, stopped_full, stopped_lacking}
use Rattle.session.proofs.KnownLemmas.{entered_state, keeps_same, known_is}

-- ---- a command that registers a query, of either kind

pub request_kept : (r : Request) → is_kept (request_command r) ≡ true
request_kept r = by_kind r.kind
  where
    by_kind : (k : QueryKind) → is_kept (command_by k r) ≡ true
    by_kind Watch = refl
    by_kind Keep = refl

-- it may be judged
pub request_ready : (r : Request) → IsPrintable (request_command r) → (r.span ≤ LAST_TICK) × IsLawful (query_view r.query.now)
request_ready r = by_kind r.kind
  where
    by_kind : (k : QueryKind) → IsPrintable (command_by k r) → (r.span ≤ LAST_TICK) × IsLawful (query_view r.query.now)
    by_kind Watch printable = is_ready (command_by Watch r) printable
    by_kind Keep printable = is_ready (command_by Keep r) printable

pub request_fault : (k : Known) (r : Request) → command_fault k (request_command r) ≡ register_refusal k r.name.now r.span (query_view r.query.now)
request_fault k r = by_kind r.kind
  where
    by_kind : (kind : QueryKind) → command_fault k (command_by kind r) ≡ register_refusal k r.name.now r.span (query_view r.query.now)
    by_kind Watch = refl
    by_kind Keep = refl

request_evaluates : (r : Request) → is_query (request_command r) ≡ true
request_evaluates r = by_kind r.kind
  where
    by_kind : (k : QueryKind) → is_query (command_by k r) ≡ true
    by_kind Watch = refl
    by_kind Keep = refl

pub request_looks : (journal : List Accepted) (r : Request) →
    most_looks (held journal) (request_command r) ≡ most_reads (world journal) r.span (query_view r.query.now)
request_looks journal r = by_kind r.kind
  where
    by_kind : (k : QueryKind) → most_looks (held journal) (command_by k r) ≡ most_reads (world journal) r.span (query_view r.query.now)
    by_kind Watch = refl
    by_kind Keep = refl

pub request_lines : (old new : Known) (r : Request) → kept_lines old new (request_command r)
    ≡ answer_text old.world old.now (registration r.kind old.world old.now r.name.now r.span (query_view r.query.now))
request_lines old new r = by_kind r.kind
  where
    by_kind : (k : QueryKind) → kept_lines old new (command_by k r)
        ≡ answer_text old.world old.now (registration k old.world old.now r.name.now r.span (query_view r.query.now))
    by_kind Watch = refl
    by_kind Keep = refl

pub request_live : (w : World) (now : ℕ) (live : List Registration) (r : Request) → live_after w now live (request_command r)
    ≡ live ++ registration r.kind w now r.name.now r.span (query_view r.query.now) ∷ []
request_live w now live r = by_kind r.kind
  where
    by_kind : (k : QueryKind) → live_after w now live (command_by k r)
        ≡ live ++ registration k w now r.name.now r.span (query_view r.query.now) ∷ []
    by_kind Watch = refl
    by_kind Keep = refl

-- it writes nothing and moves no clock
pub request_still : (now : ℕ) (r : Request) → (writes_of now (request_command r) ≡ []) × (regions_of (request_command r) ≡ []) × (ticks_of (request_command r) ≡ 0)
request_still now r = by_kind r.kind
  where
    by_kind : (k : QueryKind) → (writes_of now (command_by k r) ≡ []) × (regions_of (command_by k r) ≡ []) × (ticks_of (command_by k r) ≡ 0)
    by_kind Watch = (refl, refl, refl)
    by_kind Keep = (refl, refl, refl)

-- ---- once it is registered

added_is : (kind : QueryKind) (w : World) (now : ℕ) (name : List ℕ) (span : ℕ) (q : QueryTree) (k : KeptQuery) →
    info_of k ≡ info_for kind now name span → k.query ≡ query_in w q → registration_of k ≡ registration kind w now name span q
added_is kind w now name span q k info query = λ i. record {
  name = (info i).name;
  query = record { kind = (info i).kind; query = query i; entry = (info i).entry; expiry = (info i).expiry };
}

module _ (d : Database) (old new : List KeptQuery) (kind : QueryKind) (name : List ℕ) (span : ℕ) (q : QueryTree) (resolved : ResolvedQuery)
    (adds : AddsQuery (world_of_database d) (clock_of d) (info_for kind (clock_of d) name span) resolved old new)
    (is : resolved ≡ query_in (world_of_database d) q) where
  pub adds_registration : map registration_of new
      ≡ map registration_of old ++ registration kind (world_of_database d) (clock_of d) name span q ∷ []
  adds_registration =
      ap (map registration_of) adds.list
      ∙ map-append registration_of old (adds.added ∷ [])
      ∙ ap (λ r. map registration_of old ++ r ∷ [])
      (added_is kind (world_of_database d) (clock_of d) name span q adds.added adds.is.info (adds.is.query ∙ is))

  pub adds_stand : Stand d old → Stand d new
  adds_stand stand = subst (λ (ks : List KeptQuery). Stand d ks) (sym adds.list) (record {
    current = All-append (IsCurrentFor (world_of_database d) (clock_of d)) old (adds.added ∷ []) stand.current
        (one (IsCurrentFor (world_of_database d) (clock_of d)) adds.is.current);
    fits = All-append (FitsWorld (world_of_database d)) old (adds.added ∷ []) stand.fits (one (FitsWorld (world_of_database d)) adds.is.fits);
    entered = All-append (λ (k : KeptQuery). k.entry ≤ clock_of d) old (adds.added ∷ []) stand.entered
        (one (λ (k : KeptQuery). k.entry ≤ clock_of d) (let e : adds.added.entry ≡ clock_of d = ap (λ (i : Info). i.entry) adds.is.info in omega (arith, e)));
  })
    where
      one : (P : KeptQuery → Type 0) → P adds.added → All P (adds.added ∷ [])
      one P p = All-cons P adds.added [] p (All-nil P)

  -- and dropped again
  pub dropped_again : is_registered (map registration_of old) name ≡ false → filter (λ k. not (bytes_eq k.name name)) new ≡ old
  dropped_again free =
      ap (filter (λ (k : KeptQuery). not (bytes_eq k.name name))) adds.list
      ∙ all_but old free
    where
      same : bytes_eq adds.added.name name ≡ true
      same = (bytes_eq-Decides adds.added.name name).1 (ap (λ (i : Info). i.name) adds.is.info)

      all_but : (ks : List KeptQuery) → is_registered (map registration_of ks) name ≡ false →
          filter (λ k. not (bytes_eq k.name name)) (ks ++ adds.added ∷ []) ≡ ks
      all_but [] none = ap (λ b. if not b then adds.added ∷ [] else []) same
      all_but (k ∷ ks) none =
          let parts = or_parts (bytes_eq name k.name) (is_registered (map registration_of ks) name) none in
          let later : List KeptQuery = filter (λ x. not (bytes_eq x.name name)) (ks ++ adds.added ∷ []) in
          ap (λ b. if not b then k ∷ later else later)
          (nat_list_eq_equiv.symm k.name name ∙ parts.0)
          ∙ ap (λ rest. k ∷ rest) (all_but ks parts.1)

-- ---- names

pub registered_any : (name : List ℕ) (ks : List KeptQuery) → list_any (λ k. bytes_eq k.name name) ks ≡ is_registered (map registration_of ks) name
registered_any name [] = refl
registered_any name (k ∷ ks) = λ i. nat_list_eq_equiv.symm k.name name i || registered_any name ks i

pub drops_registration : (name : List ℕ) (ks : List KeptQuery) →
    map registration_of (filter (λ k. not (bytes_eq k.name name)) ks) ≡ filter (λ r. not (has_name name r)) (map registration_of ks)
drops_registration name [] = refl
drops_registration name (k ∷ ks) =
    one (bytes_eq k.name name) (drops_registration name ks) ∙ ap (λ b. if not b then registration_of k ∷ later else later) (nat_list_eq_equiv.symm k.name name)
  where
    kept : List KeptQuery
    kept = filter (λ x. not (bytes_eq x.name name)) ks

    later : List Registration
    later = filter (λ r. not (has_name name r)) (map registration_of ks)

    one : (b : Bool) → map registration_of kept ≡ later →
        map registration_of (if not b then k ∷ kept else kept) ≡ (if not b then registration_of k ∷ later else later)
    one true same = same
    one false same = ap (λ rest. registration_of k ∷ rest) same

pub drops_stand : (d : Database) (name : List ℕ) (ks : List KeptQuery) → Stand d ks → Stand d (filter (λ k. not (bytes_eq k.name name)) ks)
drops_stand d name ks stand = record {
  current = All-filter (λ (k : KeptQuery). not (bytes_eq k.name name)) (IsCurrentFor (world_of_database d) (clock_of d)) ks stand.current;
  fits = All-filter (λ (k : KeptQuery). not (bytes_eq k.name name)) (FitsWorld (world_of_database d)) ks stand.fits;
  entered = All-filter (λ (k : KeptQuery). not (bytes_eq k.name name)) (λ (k : KeptQuery). k.entry ≤ clock_of d) ks stand.entered;
}

-- the refusal of a name that no query has
pub unregistered : (k : Known) (name : List ℕ) (there : Bool) → there ≡ is_registered k.live name →
    command_fault k (Tree.Drop name) ≡ first_that_holds ((refusals.UnknownName, not there) ∷ [])
unregistered k name there is = ap (λ b. first_that_holds ((refusals.UnknownName, not b) ∷ [])) (sym is)

pub name_is_free : (k : Known) (name : List ℕ) (span : ℕ) (q : QueryTree) → register_refusal k name span q ≡ None → is_registered k.live name ≡ false
name_is_free k name span q none =
    let later = (none_of_both (unknown_among (type_refusal k.world q)) _ (sym (registered_by_fault k name span q) ∙ none)).1 in
    first_none refusals.NameTaken (is_registered k.live name)
    (none_of_both (first_that_holds ((refusals.NameTaken, is_registered k.live name) ∷ []))
    (or_else (type_refusal k.world q) (register_size_refusal k span q)) later).0

-- ---- a query that is asked for is registered

module _ (s : State) (is : IsState s.journal s) (c : CommandTree) (r : Request) (same : c ≡ request_command r) where
  asked_kept : is_kept c ≡ true
  asked_kept = ap is_kept same ∙ request_kept r

  asked_fault : command_fault (known s.journal) c ≡ register_refusal (known_of s.database s.live) r.name.now r.span (query_view r.query.now)
  asked_fault =
      ap (command_fault (known s.journal)) same ∙ request_fault (known s.journal) r
      ∙ ap (λ (k : Known). register_refusal k r.name.now r.span (query_view r.query.now)) (sym (known_is s.journal s is))

  pub asked_looks : most_looks (held s.journal) c ≡ most_reads (world_of_database s.database) r.span (query_view r.query.now)
  asked_looks =
      ap (most_looks (held s.journal)) same ∙ request_looks s.journal r
      ∙ ap (λ (w : World). most_reads w r.span (query_view r.query.now)) (sym is.keeps.told_is)

  -- it evaluates a query, so it may take probes
  pub asked_plain : (probes probes' : ℕ) → is_query c ≡ false → probes' ≡ probes
  asked_plain probes probes' plain = absurd (cc (plain, ap is_query same ∙ request_evaluates r))

  pub asked_stopped : (fault : CommandFault) →
      IsStoppedBy (register_refusal (known_of s.database s.live) r.name.now r.span (query_view r.query.now)) fault →
      IsStopped c (held s.journal) (held s.journal) fault
  asked_stopped fault stopped =
      stopped_by s.journal c asked_kept fault
      (subst (λ (o : Option Refusal). IsStoppedBy o fault) (sym asked_fault) stopped)

  module _ (right : register_refusal (known_of s.database s.live) r.name.now r.span (query_view r.query.now) ≡ None) where
    pub asked_full : (line : List ℕ) (fault : CommandFault) → Admits s.journal c line (Err fault) →
        IsStopped c (held s.journal) (held s.journal) fault
    asked_full line fault admits =
        stopped_full s.journal c asked_kept line fault (asked_fault ∙ right) admits

    pub asked_lacks : (new : List Accepted) (fault : CommandFault) → new ≡ s.journal → fault ≡ stops.NoMemory →
        IsStopped c (held s.journal) (held new) fault
    asked_lacks new fault still lacks =
        stopped_lacking s.journal c asked_kept new fault still lacks (λ other. asked_fault ∙ right)

    module _ (line : List ℕ) (admits : Admits s.journal c line (Ok tt)) where
      asked_accepted : fault_of (held s.journal) c ≡ None
      asked_accepted = accepted s.journal c asked_kept (asked_fault ∙ right) admits.1

      pub asked_room : passes_limits (length s.journal) (bytes_of s.journal) (length line) ≡ false
      asked_room = ap (λ l. passes_limits (length s.journal) (bytes_of s.journal) (length l)) admits.0 ∙ admits.1

      module _ (now : ℕ) (tick : now ≡ clock_of s.database) (spells : List ℕ → CommandTree) (canonical : spells (text_of c) ≡ c) where
        entered_is : (new : List Accepted) → new ≡ s.journal ++ (now, spells line) ∷ [] → new ≡ s.journal ++ (now, c) ∷ []
        entered_is new entered = entered ∙ ap (λ x. s.journal ++ (now, x) ∷ []) (ap spells admits.0 ∙ canonical)

        module _ (resolved : ResolvedQuery) (by_number : resolved ≡ query_in (world_of_database s.database) (query_view r.query.now)) (live : List KeptQuery)
            (adds : AddsQuery (world_of_database s.database) (clock_of s.database) (info_for r.kind (clock_of s.database) r.name.now r.span) resolved s.live live) where
          pub asked_state : (n : State) → IsPrintable c → length (text_of c) ≤ SESSION_LINE_LIMIT → n.journal ≡ s.journal ++ (now, spells line) ∷ [] → n.database ≡ s.database →
              n.live ≡ live → IsState n.journal n
          asked_state n printable short entered database its =
              let still = request_still now r in
              entered_state s.journal now c s n refl is (tick ∙ is.keeps.clock_is) asked_kept printable short asked_accepted (entered_is n.journal entered)
              (subst (λ (d : Database). Keeps (s.journal ++ (now, c) ∷ []) d) (sym database)
              (keeps_same s.journal now c s.database (ap (writes_of now) same ∙ still.0) (ap regions_of same ∙ still.1) (ap ticks_of same ∙ still.2) is.keeps))
              (ap (map registration_of) its
              ∙ adds_registration s.database s.live live r.kind r.name.now r.span (query_view r.query.now) resolved adds by_number
              ∙ (λ i. is.queries i ++ registration r.kind (is.keeps.told_is i) (sym tick i) r.name.now r.span (query_view r.query.now) ∷ [])
              ∙ sym (request_live (world s.journal) now (registered s.journal) r)
              ∙ ap (live_after (world s.journal) now (registered s.journal)) (sym same))
              (subst (λ (d : Database). Stand d n.live) (sym database)
              (subst (λ (ks : List KeptQuery). Stand s.database ks) (sym its)
              (adds_stand s.database s.live live r.kind r.name.now r.span (query_view r.query.now) resolved adds by_number is.stand)))

          pub asked_again : filter (λ k. not (bytes_eq k.name r.name.now)) live ≡ s.live
          asked_again =
              dropped_again s.database s.live live r.kind r.name.now r.span (query_view r.query.now) resolved adds by_number
              (name_is_free (known_of s.database s.live) r.name.now r.span (query_view r.query.now) right)

        pub asked_done : (new : List Accepted) (before after : List ℕ) → new ≡ s.journal ++ (now, spells line) ∷ [] →
            after ≡ before ++ answer_text (world_of_database s.database) (clock_of s.database)
            (registration r.kind (world_of_database s.database) (clock_of s.database) r.name.now r.span (query_view r.query.now)) →
            IsAccepted c (held s.journal) (held new) before after
        asked_done new before after entered said =
            let lines : List ℕ = answer_text (world_of_database s.database) (clock_of s.database)
            (registration r.kind (world_of_database s.database) (clock_of s.database) r.name.now r.span (query_view r.query.now)) in
            let later : Known = known (s.journal ++ (clock s.journal, c) ∷ []) in
            accepted_kept s.journal c asked_kept now new before after lines (tick ∙ is.keeps.clock_is) (entered_is new entered) asked_accepted
            (ap (λ (k : Known). answer_text k.world k.now (registration r.kind k.world k.now r.name.now r.span (query_view r.query.now)))
            (known_is s.journal s is)
            ∙ sym (request_lines (known s.journal) later r) ∙ ap (kept_lines (known s.journal) later) (sym same))
            said

-- ---- a query is dropped

module _ (s : State) (is : IsState s.journal s) (c : CommandTree) (name : List ℕ) (same : c ≡ Tree.Drop name) (there : Bool)
    (tells : there ≡ list_any (λ (k : KeptQuery). bytes_eq k.name name) s.live) where
  drop_fault : command_fault (known s.journal) c ≡ first_that_holds ((refusals.UnknownName, not there) ∷ [])
  drop_fault =
      ap (command_fault (known s.journal)) same
      ∙ unregistered (known s.journal) name there
      (tells ∙ registered_any name s.live ∙ ap (λ (rs : List Registration). is_registered rs name) is.queries)

  drop_kept : is_kept c ≡ true
  drop_kept = ap is_kept same

  pub drop_unknown : there ≡ false → IsStopped c (held s.journal) (held s.journal) (stops.Refused refusals.UnknownName)
  drop_unknown absent =
      stopped_by s.journal c drop_kept (stops.Refused refusals.UnknownName)
      (drop_fault ∙ ap (λ b. first_that_holds ((refusals.UnknownName, not b) ∷ [])) absent)

  module _ (present : there ≡ true) where
    drop_right : command_fault (known s.journal) c ≡ None
    drop_right = drop_fault ∙ ap (λ b. first_that_holds ((refusals.UnknownName, not b) ∷ [])) present

    pub drop_full : (line : List ℕ) (fault : CommandFault) → Admits s.journal c line (Err fault) →
        IsStopped c (held s.journal) (held s.journal) fault
    drop_full line fault admits = stopped_full s.journal c drop_kept line fault drop_right admits

    pub drop_lacks : (new : List Accepted) (fault : CommandFault) → new ≡ s.journal → fault ≡ stops.NoMemory →
        IsStopped c (held s.journal) (held new) fault
    drop_lacks new fault still lacks =
        stopped_lacking s.journal c drop_kept new fault still lacks (λ other. drop_right)

    module _ (line : List ℕ) (admits : Admits s.journal c line (Ok tt)) (now : ℕ) (tick : now ≡ clock_of s.database) (spells : List ℕ → CommandTree)
        (canonical : spells (text_of c) ≡ c) where
      drop_accepted : fault_of (held s.journal) c ≡ None
      drop_accepted = accepted s.journal c drop_kept drop_right admits.1

      drop_entered : (new : List Accepted) → new ≡ s.journal ++ (now, spells line) ∷ [] → new ≡ s.journal ++ (now, c) ∷ []
      drop_entered new entered = entered ∙ ap (λ x. s.journal ++ (now, x) ∷ []) (ap spells admits.0 ∙ canonical)

      pub drop_state : (n : State) → IsPrintable c → length (text_of c) ≤ SESSION_LINE_LIMIT → n.journal ≡ s.journal ++ (now, spells line) ∷ [] → n.database ≡ s.database →
          n.live ≡ filter (λ k. not (bytes_eq k.name name)) s.live → IsState n.journal n
      drop_state n printable short entered database its =
          entered_state s.journal now c s n refl is (tick ∙ is.keeps.clock_is) drop_kept printable short drop_accepted (drop_entered n.journal entered)
          (subst (λ (d : Database). Keeps (s.journal ++ (now, c) ∷ []) d) (sym database)
          (keeps_same s.journal now c s.database (ap (writes_of now) same) (ap regions_of same) (ap ticks_of same) is.keeps))
          (ap (map registration_of) its ∙ drops_registration name s.live
          ∙ ap (filter (λ (x : Registration). not (has_name name x))) is.queries
          ∙ ap (live_after (world s.journal) now (registered s.journal)) (sym same))
          (subst (λ (d : Database). Stand d n.live) (sym database)
          (subst (λ (ks : List KeptQuery). Stand s.database ks) (sym its) (drops_stand s.database name s.live is.stand)))

      pub drop_done : (new : List Accepted) (before after : List ℕ) → new ≡ s.journal ++ (now, spells line) ∷ [] → after ≡ before →
          IsAccepted c (held s.journal) (held new) before after
      drop_done new before after entered said =
          accepted_kept s.journal c drop_kept now new before after [] (tick ∙ is.keeps.clock_is) (drop_entered new entered) drop_accepted
          (ap (kept_lines (known s.journal) (known (s.journal ++ (clock s.journal, c) ∷ []))) (sym same)) (said ∙ sym (append-nil before))
