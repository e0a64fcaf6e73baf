-- `exported_search::dofitrano_search_with` meets its contract.
use mathlib.Core.Path.{ap, ◌∙◌}
use Rattle.exported_types.specs.Replies.{reply_of}
use Rattle.method.specs.Calls.{call_terms, lent_table}
use Rattle.exported_search.proofs.Promises.{searched_right}
use Rattle.exported_search.proofs.dofitrano_search_with.Goals as goal

pub returns : goal.returns
returns c =
    let e = c.lent_table-own_table.ensures in
    let value = rw e at c.search_with-found.ensures.value in
    let slots = rw e at c.search_with-found.ensures.shares_after in
    let right = rw e at c.search_with-found.ensures.outcome_right_with in
    let none = rw e at c.search_with-found.ensures.table_value in
    record {
      value = c.reply_to.ensures ∙ ap reply_of value;
      shares_after = slots;
      outcome_right_with = searched_right (call_terms c.args.released c.args.lent c.args.table.now) _ _ value slots right;
      table_value = λ a b. none a (ap (λ l. lent_table l c.args.table.now) b);
    }
