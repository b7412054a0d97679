-- For this crate and for the crates above: names, texts and terms of a query stand in its tokens in the same order.
use Rattle.ftl_parser.proofs.Names.{◌≡◌, ℕ, ℤ, true, false, List, [], ◌∷◌, ◌++◌, append_assoc, append-nil, Option, refl, sym, ap, ◌∙◌, subst, flat_map, flat_map-append, UntilForm, Prefix, Signed, Term, FromPart, Tree, QueryTree, Piece, RETRIEVE, FROM, WHERE, AND, OR, PREFIX, BOUNDED, OPEN, CLOSE, OPEN_SQUARE, CLOSE_SQUARE, COMMA, PLUS, MINUS, ARROW, COMPARISON, NAME, NUMBER, SpellsUntil, SpellsRef, ref_name, ref_attr, ref_part, ref_time, SpellsFactor, factor_number, factor_times, factor_text, factor_ref, SpellsTerm, term_first, term_minus_first, term_plus, term_minus, SpellsNum, num_plain, num_minus, SpellsNames, names_one, names_more, SpellsFromParts, parts_one, parts_more, SpellsAtom, atom_compare, atom_inside, atom_outside, atom_dist, atom_sphere, Level, Spells, formula_conj, formula_or, conj_chain, conj_and, chain_unary, chain_until, until_plain, until_within, until_after, unary_prefix, unary_bounded, unary_assign, unary_brackets, unary_truth, unary_atom, SpellsQuery, query, prefixed, term_of, signed, from_part}
use Rattle.ftl_parser.specs.declared.prefix.Prefix.TheVariants as prefixes
use Rattle.ftl_parser.specs.declared.tree.Atom as atom_type
use Rattle.ftl_parser.specs.declared.tree.Unit as unit_type
use Rattle.ftl_parser.specs.Order.{Lists, unit_lists, factors_list, atom_lists, formula_lists, part_lists, query_lists, piece_lists, token_lists, query_names, token_names, query_texts, token_texts, names_alone, texts_alone, atom_terms, formula_terms, query_terms, TermsIn, no_more_terms, next_term}

-- ---- names and texts, whatever they list

module _ {R : Type 0} (l : Lists R) where
  -- two parts
  joined : (v w : List R) (xs ys : List Piece) → v ≡ token_lists l xs → w ≡ token_lists l ys → v ++ w ≡ token_lists l (xs ++ ys)
  joined v w xs ys h k = ap (λ t. t ++ w) h ∙ ap (λ t. token_lists l xs ++ t) k ∙ sym (flat_map-append (piece_lists l) xs ys)

  -- one more part of its kind
  one_more : {X : Type 0} (item : X → List R) (items : List X) (x : X) (xs ys : List Piece) →
      flat_map item items ≡ token_lists l xs → item x ≡ token_lists l ys → flat_map item (items ++ x ∷ []) ≡ token_lists l (xs ++ ys)
  one_more item items x xs ys h k =
      flat_map-append item items (x ∷ []) ∙ joined (flat_map item items) (item x ++ []) xs ys h (append-nil (item x) ∙ k)

  name_alone : (n : List ℕ) → l.name n ≡ token_lists l (NAME n ∷ [])
  name_alone n = sym (append-nil (l.name n))

  two_names : (o n : List ℕ) → l.name o ++ l.name n ≡ token_lists l (NAME o ∷ NAME n ∷ [])
  two_names o n = ap (λ t. l.name o ++ t) (name_alone n)

  lists-ref : {u : unit_type.Unit} {xs : List Piece} → SpellsRef u xs → unit_lists l u ≡ token_lists l xs
  lists-ref (ref_name {o = o}) = name_alone o
  lists-ref (ref_attr {o = o} {a = a}) = two_names o a
  lists-ref (ref_part {o = o} {a = a}) = two_names o a
  lists-ref ref_time = refl

  lists-factor : {k : Option ℕ} {u : unit_type.Unit} {xs : List Piece} → SpellsFactor k u xs → unit_lists l u ≡ token_lists l xs
  lists-factor factor_number = refl
  lists-factor (factor_times r) = lists-ref r
  lists-factor (factor_text {t = t}) = sym (append-nil (l.text t))
  lists-factor (factor_ref r) = lists-ref r

  lists-term : {fs : List Signed} {xs : List Piece} → SpellsTerm fs xs → factors_list l fs ≡ token_lists l xs
  lists-term (term_first {u = u} d) = append-nil (unit_lists l u) ∙ lists-factor d
  lists-term (term_minus_first {u = u} d) = append-nil (unit_lists l u) ∙ lists-factor d
  lists-term (term_plus {fs = fs} {xs = xs} {k = k} {u = u} {ys = ys} d e) =
      one_more (λ (f : Signed). unit_lists l f.unit) fs (signed false k u) xs (PLUS ∷ ys) (lists-term d) (lists-factor e)
  lists-term (term_minus {fs = fs} {xs = xs} {k = k} {u = u} {ys = ys} d e) =
      one_more (λ (f : Signed). unit_lists l f.unit) fs (signed true k u) xs (MINUS ∷ ys) (lists-term d) (lists-factor e)

  lists-num : {c : ℤ} {xs : List Piece} → SpellsNum c xs → [] ≡ token_lists l xs
  lists-num num_plain = refl
  lists-num num_minus = refl

  lists-names : {ns : List (List ℕ)} {xs : List Piece} → SpellsNames ns xs → flat_map l.name ns ≡ token_lists l xs
  lists-names names_one = refl
  lists-names (names_more {ns = ns} {xs = xs} n d) = one_more l.name ns n xs (COMMA ∷ NAME n ∷ []) (lists-names d) (name_alone n)

  lists-parts : {ps : List FromPart} {xs : List Piece} → SpellsFromParts ps xs → flat_map (part_lists l) ps ≡ token_lists l xs
  lists-parts (parts_one {c = c} {v = v}) = append-nil (part_lists l (from_part c v)) ∙ two_names c v
  lists-parts (parts_more {ps = ps} {xs = xs} c v d) = one_more (part_lists l) ps (from_part c v) xs (COMMA ∷ NAME c ∷ NAME v ∷ [])
      (lists-parts d) (two_names c v)

  -- before a token that lists nothing
  ended : (v : List R) (xs : List Piece) → v ≡ token_lists l xs → v ≡ token_lists l (xs ++ CLOSE ∷ [])
  ended v xs h = sym (append-nil v) ∙ joined v [] xs (CLOSE ∷ []) h refl

  lists-atom : {a : atom_type.Atom} {xs : List Piece} → SpellsAtom a xs → atom_lists l a ≡ token_lists l xs
  lists-atom (atom_compare {fs = fs} {gs = gs} {op = op} {xs = xs} {ys = ys} d e) =
      joined (factors_list l fs) (factors_list l gs) xs (COMPARISON op ∷ ys) (lists-term d) (lists-term e)
  lists-atom (atom_inside {o = o} {p = p}) = two_names o p
  lists-atom (atom_outside {o = o} {p = p}) = two_names o p
  lists-atom (atom_dist {o = o} {n = n} d) = ap (λ t. l.name o ++ t) (sym (append-nil (l.name n)) ∙ ap (λ t. l.name n ++ t) (lists-num d))
  lists-atom (atom_sphere {ns = ns} {xs = xs} d) = ended (flat_map l.name ns) xs (lists-names d)

  lists-prefixed : (w : Prefix) (f : Tree) → formula_lists l (prefixed w f) ≡ formula_lists l f
  lists-prefixed prefixes.Not f = refl
  lists-prefixed prefixes.Next f = refl
  lists-prefixed prefixes.Eventually f = refl
  lists-prefixed prefixes.Always f = refl

  lists-until : {form : UntilForm} {n : ℕ} {xs : List Piece} → SpellsUntil form n xs → [] ≡ token_lists l xs
  lists-until until_plain = refl
  lists-until until_within = refl
  lists-until until_after = refl

  lists-formula : {level : Level} {f : Tree} {xs : List Piece} → Spells level f xs → formula_lists l f ≡ token_lists l xs
  lists-formula (formula_conj d) = lists-formula d
  lists-formula (formula_or {f = f} {g = g} {xs = xs} {ys = ys} d e) =
      joined (formula_lists l f) (formula_lists l g) xs (OR ∷ ys) (lists-formula d) (lists-formula e)
  lists-formula (conj_chain d) = lists-formula d
  lists-formula (conj_and {f = f} {g = g} {xs = xs} {ys = ys} d e) =
      joined (formula_lists l f) (formula_lists l g) xs (AND ∷ ys) (lists-formula d) (lists-formula e)
  lists-formula (chain_unary d) = lists-formula d
  lists-formula (chain_until {f = f} {g = g} {xs = xs} {us = us} {ys = ys} u d e) =
      joined (formula_lists l f) (formula_lists l g) xs (us ++ ys) (lists-formula d) (joined [] (formula_lists l g) us ys (lists-until u) (lists-formula e))
  lists-formula (unary_prefix {w = w} {f = f} d) = lists-prefixed w f ∙ lists-formula d
  lists-formula (unary_bounded d) = lists-formula d
  lists-formula (unary_assign {v = v} {fs = fs} {f = f} {xs = xs} {ys = ys} t d) =
      append_assoc (l.name v) (factors_list l fs) (formula_lists l f)
      ∙ ap (λ w. l.name v ++ w) (joined (factors_list l fs) (formula_lists l f) xs (CLOSE_SQUARE ∷ ys) (lists-term t) (lists-formula d))
  lists-formula (unary_brackets {f = f} {xs = xs} d) = ended (formula_lists l f) xs (lists-formula d)
  lists-formula unary_truth = refl
  lists-formula (unary_atom d) = lists-atom d

  pub lists-query : {q : QueryTree} {xs : List Piece} → SpellsQuery q xs → query_lists l q ≡ token_lists l xs
  lists-query (query {ns = ns} {ps = ps} {f = f} {xs = xs} {ys = ys} {zs = zs} names froms d) =
      joined (flat_map l.name ns) (flat_map (part_lists l) ps ++ formula_lists l f) xs (FROM ∷ (ys ++ WHERE ∷ zs)) (lists-names names)
      (joined (flat_map (part_lists l) ps) (formula_lists l f) ys (WHERE ∷ zs) (lists-parts froms) (lists-formula d))

pub names_in_order : (tokens : List Piece) (q : QueryTree) → SpellsQuery q tokens → query_names q ≡ token_names tokens
names_in_order tokens q d = lists-query names_alone d

pub texts_in_order : (tokens : List Piece) (q : QueryTree) → SpellsQuery q tokens → query_texts q ≡ token_texts tokens
texts_in_order tokens q d = lists-query texts_alone d

-- ---- terms

-- after other tokens
behind : {ts : List Term} {ys : List Piece} (xs : List Piece) → TermsIn ts ys → TermsIn ts (xs ++ ys)
behind xs no_more_terms = no_more_terms
behind xs (next_term {ts = ts} {ys = ys} {zs = zs} gap d later) =
    subst (TermsIn _) (append_assoc xs gap (ys ++ zs)) (next_term (xs ++ gap) d later)

-- before others
both : {ts us : List Term} {xs ys : List Piece} → TermsIn ts xs → TermsIn us ys → TermsIn (ts ++ us) (xs ++ ys)
both (no_more_terms {xs = xs}) e = behind xs e
both {ys = rest} (next_term {ys = ys} {zs = zs} gap d later) e =
    subst (TermsIn _) (sym (append_assoc gap (ys ++ zs) rest ∙ ap (λ t. gap ++ t) (append_assoc ys zs rest))) (next_term gap d (both later e))

before : {ts : List Term} {xs : List Piece} (ys : List Piece) → TermsIn ts xs → TermsIn ts (xs ++ ys)
before {ts = ts} {xs = xs} ys d = subst (λ us. TermsIn us (xs ++ ys)) (append-nil ts) (both d no_more_terms)

term_alone : {fs : List Signed} {xs : List Piece} → SpellsTerm fs xs → TermsIn (term_of fs ∷ []) xs
term_alone {xs = xs} d = subst (TermsIn _) (append-nil xs) (next_term {zs = []} [] d no_more_terms)

terms-atom : {a : atom_type.Atom} {xs : List Piece} → SpellsAtom a xs → TermsIn (atom_terms a) xs
terms-atom (atom_compare {op = op} d e) = both (term_alone d) (behind (COMPARISON op ∷ []) (term_alone e))
terms-atom atom_inside = no_more_terms
terms-atom atom_outside = no_more_terms
terms-atom (atom_dist d) = no_more_terms
terms-atom (atom_sphere d) = no_more_terms

terms-prefixed : (w : Prefix) (f : Tree) → formula_terms f ≡ formula_terms (prefixed w f)
terms-prefixed prefixes.Not f = refl
terms-prefixed prefixes.Next f = refl
terms-prefixed prefixes.Eventually f = refl
terms-prefixed prefixes.Always f = refl

terms-formula : {level : Level} {f : Tree} {xs : List Piece} → Spells level f xs → TermsIn (formula_terms f) xs
terms-formula (formula_conj d) = terms-formula d
terms-formula (formula_or d e) = both (terms-formula d) (behind (OR ∷ []) (terms-formula e))
terms-formula (conj_chain d) = terms-formula d
terms-formula (conj_and d e) = both (terms-formula d) (behind (AND ∷ []) (terms-formula e))
terms-formula (chain_unary d) = terms-formula d
terms-formula (chain_until {us = us} u d e) = both (terms-formula d) (behind us (terms-formula e))
terms-formula (unary_prefix {w = w} {f = f} {xs = xs} d) = subst (λ ts. TermsIn ts (PREFIX w ∷ xs)) (terms-prefixed w f)
    (behind (PREFIX w ∷ []) (terms-formula d))
terms-formula (unary_bounded {form = form} {c = c} d) = behind (BOUNDED form ∷ NUMBER c ∷ []) (terms-formula d)
terms-formula (unary_assign {v = v} t d) = next_term (OPEN_SQUARE ∷ NAME v ∷ ARROW ∷ []) t (behind (CLOSE_SQUARE ∷ []) (terms-formula d))
terms-formula (unary_brackets d) = behind (OPEN ∷ []) (before (CLOSE ∷ []) (terms-formula d))
terms-formula unary_truth = no_more_terms
terms-formula (unary_atom d) = terms-atom d

pub terms_in_order : (tokens : List Piece) (q : QueryTree) → SpellsQuery q tokens → TermsIn (query_terms q) tokens
terms_in_order tokens q (query {xs = xs} {ys = ys} names froms d) =
    behind (RETRIEVE ∷ []) (behind xs (behind (FROM ∷ []) (behind ys (behind (WHERE ∷ []) (terms-formula d)))))
