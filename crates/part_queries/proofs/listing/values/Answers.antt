use Rattle.std.proofs.Common.{◌≡◌, ℕ, ◌||◌, List, map, Some, ap, ◌∙◌}
use Rattle.std.specs.List.{list_any}
use Rattle.causal_model.specs.Items.{cell_in}
use Rattle.causal_model.specs.Log.{message_of}
use Rattle.causal_model.specs.Parts.{is_in, has_by_parts, has_logged, puts, takes}
use Rattle.part_queries.specs.Finds.{puts_in, takes_out, is_put, is_taken}
use Rattle.part_queries.specs.Headed.{founds}
use Rattle.part_queries.proofs.Listed.{listed_by_parts, answer_of_listed}
use Rattle.part_queries.proofs.listing.values.Goals as goal

pub returns-clause-by_parts : goal.returns-clause-by_parts
returns-clause-by_parts g c =
    let object = c.args.object.now in
    let log = map message_of c.args.entries.now in
    let items = g.V.ItemView.items c.args.items.now in
    let finds = founds c.deref.result.now in
    let same : (v : List ℕ) → is_in object.kind (is_put object items finds v) (is_taken object items finds v) ≡ has_by_parts object.kind object (cell_in items object (Some v)) log (Some v) = λ v.
    let put : list_any (puts_in v) finds ≡ has_logged object log (puts (Some v)) = ap (λ fs. list_any (puts_in v) (founds fs)) c.deref.ensures.value ∙ c.in_ok-finds.ensures.put v ∙ c.in_ok-logged.ensures.put v in
    let taken : list_any (takes_out v) finds ≡ has_logged object log (takes (Some v)) = ap (λ fs. list_any (takes_out v) (founds fs)) c.deref.ensures.value ∙ c.in_ok-finds.ensures.taken v ∙ c.in_ok-logged.ensures.taken v in
    λ i. is_in object.kind ((cell_in items object (Some v)).on || put i) ((cell_in items object (Some v)).off || taken i) in
    listed_by_parts object log items (λ v. is_in object.kind (is_put object items finds v) (is_taken object items finds v)) same c.listed.result c.listed.ensures.exact

pub returns-clause-of : goal.returns-clause-of
returns-clause-of g c = answer_of_listed c.args.object.now (map message_of c.args.entries.now) (g.V.ItemView.items c.args.items.now) c.listed.result c.listed.ensures.rise (returns-clause-by_parts g c)
