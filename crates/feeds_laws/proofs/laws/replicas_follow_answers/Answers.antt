use Rattle.std.proofs.Common.{ap, codes}
use Rattle.replica.specs.Feed.{hearing_after, silent}
use Rattle.feeds_laws.proofs.FeedLemmas.{empty_stands, registered_named, replica_follows}
use Rattle.feeds_laws.proofs.ItemLemmas.{Laws}
use Rattle.feeds_laws.proofs.ViewLemmas.{first_view_taken}
use Rattle.feeds_laws.proofs.WrittenLemmas.{replica_writes}
use Rattle.feeds_laws.specs.Followed.{items_for}
use Rattle.feeds_meaning.specs.Heard.{empty_seat}
use Rattle.feeds_laws.proofs.laws.replicas_follow_answers.Goals as goal

pub returns-clause-registered : goal.returns-clause-registered
returns-clause-registered c name user lines r letters found =
    let laws : Laws = record {
      unions = c.the_answer_is_the_union_of_the_full_rows.ensures.rows;
      right = c.queries_without_fault_are_right.ensures;
      fitting = c.queries_go_on_fitting_their_classes.ensures;
      truth = c.interpretations_that_agree_give_the_same_truth.ensures;
      prints = c.read_commands_are_printable.ensures;
    } in
    let all = first_view_taken laws.prints user lines letters in
    replica_follows laws name (registered_named laws (items_for user lines) empty_seat (empty_stands (codes "w")) all name r found) (items_for user lines) empty_seat (empty_stands name) all

pub returns-clause-unregistered : goal.returns-clause-unregistered
returns-clause-unregistered c name user lines is letters none =
    let laws : Laws = record {
      unions = c.the_answer_is_the_union_of_the_full_rows.ensures.rows;
      right = c.queries_without_fault_are_right.ensures;
      fitting = c.queries_go_on_fitting_their_classes.ensures;
      truth = c.interpretations_that_agree_give_the_same_truth.ensures;
      prints = c.read_commands_are_printable.ensures;
    } in
    replica_follows laws name is (items_for user lines) empty_seat (empty_stands name) (first_view_taken laws.prints user lines letters)

pub returns-clause-written : goal.returns-clause-written
returns-clause-written c name user lines r letters found =
    let laws : Laws = record {
      unions = c.the_answer_is_the_union_of_the_full_rows.ensures.rows;
      right = c.queries_without_fault_are_right.ensures;
      fitting = c.queries_go_on_fitting_their_classes.ensures;
      truth = c.interpretations_that_agree_give_the_same_truth.ensures;
      prints = c.read_commands_are_printable.ensures;
    } in
    let all = first_view_taken laws.prints user lines letters in
    let is = registered_named laws (items_for user lines) empty_seat (empty_stands (codes "w")) all name r found in
    replica_writes laws name is (items_for user lines) empty_seat (empty_stands name) all r found

pub returns-clause-heard : goal.returns-clause-heard
returns-clause-heard c name user lines letters = ap (hearing_after (silent name)) (c.users_hear_their_views.ensures.view user lines letters)
