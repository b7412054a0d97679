use Rattle.std.specs.List.{enumerate_from}
use Rattle.line_meaning.specs.Reply.{class_line}
use Rattle.object_store.specs.Contents.{catalog_of}
use Rattle.reply_text.proofs.BeginLemmas.{begins_through}
use Rattle.database.proofs.ListLemmas.{all_lines, more_lines, line_of_numbered}
use Rattle.std.proofs.Common.{◌≡◌, ◌≤◌, length, ap, sym, ◌∙◌, ◌++◌, arith}
use Rattle.database.proofs.listing.push_classes.Goals as goal

pub classes-preserved : goal.classes-preserved
classes-preserved c =
    let line = class_line (catalog_of c.args.store.now) in
    let classes = c.args.store.now.classes in
    record {
      whole = more_lines line (enumerate_from 0 classes) c.classes.number _ _ _ c.classes.invariant.whole
          (c.in_ok-push_class_of.ensures.ok
          ∙ ap (λ more. c.classes.out.items ++ more) (sym (line_of_numbered line classes c.classes.number)));
      begins = begins_through _ _ _ c.classes.invariant.begins c.in_ok-push_class_of.ensures.begins;
    }

pub returns-clause-ok : goal.returns-clause-ok
returns-clause-ok c =
    let classes = c.args.store.now.classes in
    let count : c.count-number-end.result ≡ length classes = c.count-number-end.ensures.value ∙ ap length c.schema.ensures in
    let all : length classes ≤ c.classes.number = omega (arith, count, c.classes-test.false) in
    all_lines (class_line (catalog_of c.args.store.now)) classes c.classes.number _ _ all c.classes.invariant.whole
