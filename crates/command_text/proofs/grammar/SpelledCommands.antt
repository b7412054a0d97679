-- What a rule of a command derives is read as that command, with the same of its numbers and sizes; and so tokens spell at most one command.
use Rattle.command_text.proofs.Names.{◌≡◌, ℕ, ℤ, Bool, true, false, List, [], ◌∷◌, ◌++◌, length, Some, None, option_map, refl, sym, ◌∙◌, ap, append_assoc, append-nil, arith, if◌then◌else◌, is_some, is_none, nat_le, ◌>>=◌, reserved_words, COMMA, Point, AttrKind, first_unfit, QueryTree, parts, Piece, is_sign, SignedPlace, Span, Capacity, whole_in, radius_in, Value, are_few_attributes, are_few_vertices, query_of, is_query_fit, is_query_small, CommandTree, Notes, and_number, and_size, whole_at, radius_at, point_of, SpellsNumAt, SpellsPair, SpellsAttr, attr_num, attr_text, attr_dyn, SpellsMoreAttrs, no_more_attrs, one_more_attr, SpellsAttrs, no_attrs, SpellsPoints, no_points, one_point, SpellsPointWord, no_point_word, part_verb, part_name, part_text, part_whole, part_error, part_num, part_point_word, part_attrs, part_points, part_change, SpellsParts, no_parts, last_part, last_query, part_before, SpellsCommand, by_parts, Reader, Read, before, next, begins, key, sign, name, text, number, whole, radius, num, point, all, with_front, attr, next_attr, first_attr, attrs, points, query, class_head, class, region, insert_head, insert, update, remove, tick, ask, watch_head, watch, keep, show, save, import, export, nearest, must_head, must, may, index, range, command_begun, ended, command, command_of, noting_small, CLOSE, CLOSE_SIGN, COMMA_SIGN, OPEN_SIGN, SpellsQuery}
use Rattle.ftl_parser.proofs.grammar.Drives.{drives_query}
use Rattle.command_text.specs.Tree
use Rattle.command_text.specs.Grammar
use Rattle.command_text.specs.inner.Reading.{some_attrs, point_word, drop}
use Rattle.command_text.proofs.grammar.ManyLemmas.{all_step, all_stop}
use Rattle.command_text.proofs.grammar.QueryLemmas.{fit_is}
use Rattle.command_text.proofs.grammar.Derived.{same_parts, next_attr_shortens, point_shortens}
use Rattle.command_text.proofs.grammar.Spelled.{num_spelled, point_spelled, change_spelled}

attr_spelled : {a : List ℕ × AttrKind} {s t : Notes} {xs : List Piece} → SpellsAttr a s t xs → (later : List Piece) →
    attr (before (xs ++ later) s) ≡ Some (a, before later t)
unfolding attr name next
attr_spelled attr_num later = refl
attr_spelled attr_text later = refl
attr_spelled attr_dyn later = refl

next_attr_spelled : {a : List ℕ × AttrKind} {s t : Notes} {xs : List Piece} → SpellsAttr a s t xs → (later : List Piece) →
    next_attr (before (COMMA ∷ (xs ++ later)) s) ≡ Some (a, before later t)
unfolding next_attr sign next
next_attr_spelled d later = attr_spelled d later

comma_begins : (ps : List Piece) (s : Notes) → begins (is_sign COMMA_SIGN) (before (COMMA ∷ ps) s) ≡ true
unfolding begins
comma_begins ps s = refl

close_stops : (ps : List Piece) (s : Notes) → begins (is_sign COMMA_SIGN) (before (CLOSE ∷ ps) s) ≡ false
unfolding begins
close_stops ps s = refl

more_attrs_spelled : {more : List (List ℕ × AttrKind)} {s t : Notes} {xs : List Piece} → SpellsMoreAttrs more s t xs → (later : List Piece) →
    all (begins (is_sign COMMA_SIGN)) next_attr (before (xs ++ (CLOSE ∷ later)) s) ≡ Some (more, before (CLOSE ∷ later) t)
more_attrs_spelled (no_more_attrs {s = s}) later =
    all_stop (begins (is_sign COMMA_SIGN)) next_attr (before (CLOSE ∷ later) s) (close_stops later s)
more_attrs_spelled (one_more_attr {a = a} {xs = xs} {ys = ys} {s = s} {t = t} d e) later =
    let rest : List Piece = ys ++ (CLOSE ∷ later) in
    ap (λ ps. all (begins (is_sign COMMA_SIGN)) next_attr (before (COMMA ∷ ps) s)) (append_assoc xs ys (CLOSE ∷ later))
    ∙ all_step (begins (is_sign COMMA_SIGN)) next_attr next_attr_shortens (before (COMMA ∷ (xs ++ rest)) s) (before rest t) a
    (comma_begins (xs ++ rest) s) (next_attr_spelled d rest)
    ∙ ap (with_front (a ∷ [])) (more_attrs_spelled e later)

attrs_spelled : {all : List (List ℕ × AttrKind)} {s t : Notes} {xs : List Piece} → SpellsAttrs all s t xs → attrs (before xs s) ≡ Some (all, before [] t)
unfolding attrs some_attrs first_attr begins sign next
attrs_spelled no_attrs = refl
attrs_spelled (Grammar.some_attrs {a = a} {xs = xs} {rest = more} {ys = ys} d e) =
    let closed : List (List ℕ × AttrKind) × Reader → Read (List (List ℕ × AttrKind)) =
    λ more. sign CLOSE_SIGN more.1 >>= (λ s. Some (more.0, noting_small (are_few_attributes (length more.0)) s)) in
    ap (λ o. o >>= (λ a. with_front (a.0 ∷ []) (all (begins (is_sign COMMA_SIGN)) next_attr a.1) >>= closed)) (attr_spelled d (ys ++ CLOSE ∷ []))
    ∙ ap (λ o. with_front (a ∷ []) o >>= closed) (more_attrs_spelled e [])

open_begins : {x y : ℤ} {s t : Notes} {xs : List Piece} → SpellsPair Value x y s t xs → (later : List Piece)
    → begins (is_sign OPEN_SIGN) (before (xs ++ later) s) ≡ true
unfolding begins
open_begins (Grammar.pair d e) later = refl

no_open : (s : Notes) → begins (is_sign OPEN_SIGN) (before [] s) ≡ false
unfolding begins
no_open s = refl

all_points_spelled : {ps : List Point} {s t : Notes} {xs : List Piece} → SpellsPoints ps s t xs →
    all (begins (is_sign OPEN_SIGN)) point (before xs s) ≡ Some (ps, before [] t)
all_points_spelled (no_points {s = s}) = all_stop (begins (is_sign OPEN_SIGN)) point (before [] s) (no_open s)
all_points_spelled (one_point {x = x} {y = y} {xs = xs} {ys = ys} {s = s} {t = t} d e) =
    all_step (begins (is_sign OPEN_SIGN)) point point_shortens (before (xs ++ ys) s) (before ys t) (point_of x y) (open_begins d ys) (point_spelled d ys)
    ∙ ap (with_front (point_of x y ∷ [])) (all_points_spelled e)

points_spelled : {p q r : Point} {ps : List Point} {s t : Notes} {xs : List Piece} → SpellsPoints (p ∷ q ∷ r ∷ ps) s t xs →
    points (before xs s) ≡ Some (p ∷ q ∷ r ∷ ps, before [] (and_size t (are_few_vertices (length (p ∷ q ∷ r ∷ ps)))))
unfolding points
points_spelled {p = p} {q = q} {r = r} {ps = ps} {t = t} d =
    ap (λ o. o >>= (λ ps. if nat_le 3 (length ps.0) then Some (ps.0, noting_small (are_few_vertices (length ps.0)) ps.1) else None)) (all_points_spelled d)
    ∙ ap (λ b. if b then Some (p ∷ q ∷ r ∷ ps, before [] (and_size t (are_few_vertices (length (p ∷ q ∷ r ∷ ps))))) else None) (three p q r ps)
  where
    three : (p q r : Point) (ps : List Point) → nat_le 3 (length (p ∷ q ∷ r ∷ ps)) ≡ true
    three p q r ps = grind (arith)

tail_spelled : {q : QueryTree} (xs : List Piece) (d : SpellsQuery q xs) (s : Notes) →
    query (before xs s) ≡ Some (q, before [] (and_size (and_number s (is_none (first_unfit d))) (is_query_small q)))
unfolding query query_of
tail_spelled {q = q} xs d s =
    let after : Bool → QueryTree → QueryTree × Reader = λ fit q. (q, before [] (and_size (and_number s fit) (is_query_small q))) in
    ap (option_map (after (is_query_fit xs))) (drives_query d)
    ∙ ap (λ b. Some (after b q)) (fit_is xs q d (first_unfit d) refl)

point_word_spelled : {b : Bool} {xs : List Piece} {all : List (List ℕ × AttrKind)} {s t : Notes} {ys : List Piece} → SpellsPointWord b xs
    → SpellsAttrs all s t ys → point_word (before (xs ++ ys) s) ≡ (b, before ys s)
unfolding point_word key next
point_word_spelled no_point_word no_attrs = refl
point_word_spelled no_point_word (Grammar.some_attrs d e) = refl
point_word_spelled Grammar.point_word e = refl

num_alone : {p : SignedPlace} {v : ℤ} {s t : Notes} {xs : List Piece} → SpellsNumAt p v s t xs → num p (before xs s) ≡ Some (v, before [] t)
num_alone {p = p} {s = s} {xs = xs} d = ap (λ ps. num p (before ps s)) (sym (append-nil xs)) ∙ num_spelled d []

-- parts that a command has are read as the command
parts_spelled : (c : CommandTree) (s : Notes) {t : Notes} (xs : List Piece) → SpellsParts (parts c) s t xs → command_of (before xs s) ≡ Some (c, before [] t)
unfolding reserved_words command_of command command_begun next name text number whole radius class class_head region insert insert_head update remove tick ask watch watch_head keep show drop save import export nearest must must_head may index range
parts_spelled Tree.Nothing s _ no_parts = refl
parts_spelled Tree.Listing s _ (last_part (part_verb w)) = refl
parts_spelled Tree.Quit s _ (last_part (part_verb w)) = refl
parts_spelled (Tree.Class n k b as') s _ (part_before (part_verb w)
    (part_before (part_name {n = m}) (part_before (part_whole {n = j}) (part_before (part_point_word d) (last_part (part_attrs e)))))) =
    ap (λ w. attrs w.1 >>= (λ a. Some (Tree.Class m (whole_at Capacity j) w.0 a.0, a.1)) >>= ended) (point_word_spelled d e)
    ∙ ap (λ o. o >>= (λ a. Some (Tree.Class m (whole_at Capacity j) b a.0, a.1)) >>= ended) (attrs_spelled e)
parts_spelled (Tree.Region n ps) s _ (part_before (part_verb w) (part_before (part_name {n = m}) (last_part (part_points d)))) =
    ap (λ o. o >>= (λ ps. Some (Tree.Region m ps.0, ps.1)) >>= ended) (points_spelled d)
parts_spelled (Tree.Insert c n p ss) s _ (part_before (part_verb w)
    (part_before (part_name {n = l}) (part_before (part_name {n = m}) (last_part (part_change d))))) =
    ap (λ o. o >>= ended) (change_spelled (λ p ss. Tree.Insert l m p ss) d)
parts_spelled (Tree.Update n p ss) s _ (part_before (part_verb w) (part_before (part_name {n = m}) (last_part (part_change d)))) =
    ap (λ o. o >>= ended) (change_spelled (λ p ss. Tree.Update m p ss) d)
parts_spelled (Tree.Remove n) s _ (part_before (part_verb w) (last_part part_name)) = refl
parts_spelled (Tree.Tick k) s _ (part_before (part_verb w) (last_part part_whole)) = refl
parts_spelled (Tree.Ask k q) s _ (part_before (part_verb w) (part_before (part_whole {n = j}) (last_query {xs = xs} d))) =
    ap (λ o. o >>= (λ q. Some (Tree.Ask (whole_at Span j) q.0, q.1)) >>= ended)
    (tail_spelled xs d (and_number s (is_some (whole_in Span j))))
parts_spelled (Tree.Watch n k q) s _ (part_before (part_verb w) (part_before (part_name {n = m}) (part_before (part_whole {n = j}) (last_query {xs = xs} d)))) =
    ap (λ o. o >>= (λ q. Some (Tree.Watch m (whole_at Span j) q.0, q.1)) >>= ended)
    (tail_spelled xs d (and_number s (is_some (whole_in Span j))))
parts_spelled (Tree.Keep n k q) s _ (part_before (part_verb w) (part_before (part_name {n = m}) (part_before (part_whole {n = j}) (last_query {xs = xs} d)))) =
    ap (λ o. o >>= (λ q. Some (Tree.Keep m (whole_at Span j) q.0, q.1)) >>= ended)
    (tail_spelled xs d (and_number s (is_some (whole_in Span j))))
parts_spelled (Tree.Show n) s _ (part_before (part_verb w) (last_part part_name)) = refl
parts_spelled (Tree.Drop n) s _ (part_before (part_verb w) (last_part part_name)) = refl
parts_spelled (Tree.Save t) s _ (part_before (part_verb w) (last_part part_text)) = refl
parts_spelled (Tree.Import n t) s _ (part_before (part_verb w) (part_before part_name (last_part part_text))) = refl
parts_spelled (Tree.Export n t) s _ (part_before (part_verb w) (part_before part_name (last_part part_text))) = refl
parts_spelled (Tree.Nearest k n o c) s _ (part_before (part_verb w)
    (part_before part_whole (part_before part_whole (part_before part_name (last_part part_name))))) = refl
parts_spelled (Tree.Must e k q) s _ (part_before (part_verb w) (part_before (part_error {n = m}) (part_before (part_whole {n = j}) (last_query {xs = xs} d)))) =
    ap (λ o. o >>= (λ q. Some (Tree.Must (radius_at m) (whole_at Span j) q.0, q.1)) >>= ended)
    (tail_spelled xs d (and_number (and_number s (is_some (radius_in m))) (is_some (whole_in Span j))))
parts_spelled (Tree.May e k q) s _ (part_before (part_verb w) (part_before (part_error {n = m}) (part_before (part_whole {n = j}) (last_query {xs = xs} d)))) =
    ap (λ o. o >>= (λ q. Some (Tree.May (radius_at m) (whole_at Span j) q.0, q.1)) >>= ended)
    (tail_spelled xs d (and_number (and_number s (is_some (radius_in m))) (is_some (whole_in Span j))))
parts_spelled (Tree.Index c a v) s _ (part_before (part_verb w) (part_before (part_name {n = l}) (part_before (part_name {n = m}) (last_part (part_num d))))) =
    ap (λ o. o >>= (λ v. Some (Tree.Index l m v.0, v.1)) >>= ended) (num_alone d)
parts_spelled (Tree.Range k c a l g) s _ (part_before (part_verb w)
    (part_before (part_whole {n = j}) (part_before (part_name {n = m})
    (part_before (part_name {n = n}) (part_before (part_num d) (last_part (part_num {xs = ys} e))))))) =
    ap (λ o. o >>= (λ l. num Value l.1 >>= (λ g. Some (Tree.Range (whole_at Span j) m n l.0 g.0, g.1))) >>= ended)
    (num_spelled d ys)
    ∙ ap (λ o. o >>= (λ g. Some (Tree.Range (whole_at Span j) m n l g.0, g.1)) >>= ended) (num_alone e)

-- what the rules derive is read
pub command_spelled : {c : CommandTree} {s t : Notes} {xs : List Piece} → SpellsCommand c s t xs → command_of (before xs s) ≡ Some (c, before [] t)
command_spelled {c = c} {s = s} {xs = xs} (by_parts d) = parts_spelled c s xs d

-- tokens spell at most one command
pub one_command : (xs : List Piece) (c d : CommandTree) (s t u : Notes) → SpellsCommand c s t xs → SpellsCommand d s u xs → c ≡ d
one_command xs c d s t u e f = (same_parts c d (before [] t) (before [] u) (sym (command_spelled e) ∙ command_spelled f)).0
