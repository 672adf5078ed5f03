-- Items of generations that have acted do nothing: an upload does what it does without them.
use Rattle.std.specs.Prelude.{◌≡◌, ◌+◌, ◌++◌, ℕ, List, [], ◌∷◌, Bool, true, false, not, Option, Some, None, refl, if◌then◌else◌, cond, filter, filter_map, map}
use Rattle.merge_types.specs.declared.identifiers.SiteId.{SiteId}
use Rattle.std.proofs.Common.{sym, subst, ap, ◌∙◌}
use Rattle.merge_units.specs.declared.result.Decision.{Decision}
use Rattle.merge_resolve.specs.Asked.{tallies_after}
use Rattle.merge_schema.specs.declared.publication.Publication.{Publication}
use Rattle.merge_batch.specs.Uploads.{broken_by_upload}
use Rattle.merge_batch.specs.declared.refusal.Refusal.TheVariants.{Gap}
use Rattle.merge_batch.specs.declared.refusal.Refusal.{Refusal}
use Rattle.merge_batch.specs.declared.request.Upload.{Upload}
use Rattle.merge_batch.specs.declared.request.UploadItem.{UploadItem}
use Rattle.merge_model.specs.Publisher.Acts.{Act, acts_from, acts_of, question_of}
use Rattle.merge_resolve.specs.declared.asking.Question.{Question}
use Rattle.merge_model.specs.World.Faults.{fault_of, known_by, upload_fault}
use Rattle.merge_model.specs.History.{History, is_done, pasts_with}
use Rattle.merge_model.specs.Judge.{PublisherJudge}
use Rattle.merge_model.specs.History.Model.{Model, did_something, with_letter}
use Rattle.merge_model.specs.History.Noting
use Rattle.merge_model.specs.Publisher.{counters, site_refusal}
use Rattle.merge_model.specs.Publisher.PublisherUpload.{brings_news, taken_in, too_many_new}
use Rattle.merge_model.specs.Tables.Refusals.{counter_end, first_refusal, refused_if}
use Rattle.merge_model.specs.World.Steps.{kept_decisions}
use Rattle.merge_resolve.specs.Questions.{question_of as asked_of}
use Rattle.merge_model.specs.declared.outcome.Outcome.{Outcome}
use Rattle.merge_model.specs.Tables.{PublisherTables}
use Rattle.merge_model.specs.World.{Saying}
use Rattle.merge_model.specs.declared.letter.Letter.{Letter}
use Rattle.merge_laws.specs.Laws.ActsOnce.{ActedItemsDoNothing, step_of_delivery, with_pool, without_acted}
use Rattle.merge_laws.proofs.ActsOnce.ActsOnceRules.{fewer-fine}
use Rattle.merge_laws.proofs.ActsOnce.ActsOnceSteps.{answer, delivered-by, judge, refusal, taken_by}
use Rattle.merge_model.proofs.Runs.Refusals.{first-none}
use Rattle.merge_laws.proofs.Told.ToldItems.{fault-none}
use Rattle.merge_laws.proofs.Walking.{here}

module _ {X : Type 0} (test : X → Bool) where
  twice-step : (b : Bool) (x : X) (kept : List X) → test x ≡ b → filter test kept ≡ kept → filter test (cond b (x ∷ kept) kept) ≡ cond b (x ∷ kept) kept
  twice-step true x kept passes same = ap (λ (b : Bool). (let more : List X = cond b (x ∷ filter test kept) (filter test kept) in more)) passes ∙ ap (λ (xs : List X). x ∷ xs) same
  twice-step false x kept passes same = same

  filter-twice : (xs : List X) → filter test (filter test xs) ≡ filter test xs
  filter-twice [] = refl
  filter-twice (x ∷ xs) = twice-step (test x) x (filter test xs) refl (filter-twice xs)

module _ (publication : Publication) (says : Saying) (m : Model) (number : ℕ) (site : SiteId) (u : Upload) (pool : List Letter) where
  abbrev acting : UploadItem → Bool
  acting item = not (is_done m.history u.site.0 item.generation)

  -- what comes of it by the items that act
  abbrev by_items : List UploadItem → Model
  by_items items =
      let j : PublisherJudge = judge publication says m number site u in
      let questions : List Question = filter_map (question_of publication j u.site (here m.world)) items in
      let decisions : List Decision = kept_decisions says m.world.tallies questions in
      let acts : List Act = acts_from j u.site (here m.world) (m.world.publisher.changes + 1) decisions items in
      let p : PublisherTables = if brings_news j u then taken_in publication j u acts (here m.world) else here m.world in
      let h : History = if brings_news j u then Noting.with_acts_noted publication j u acts (pasts_with m.history number) (here m.world) m.history else m.history in
      record {
        world = record m.world {
          publisher = p;
          tallies = tallies_after m.world.tallies (map asked_of questions);
          pool = pool ++ answer publication says m number site u ∷ [];
        };
        history = with_letter (answer publication says m number site u) h;
      }

  -- what refuses nothing of the upload refuses nothing without them
  none-refuses : (one : Option Refusal) (rest : List (Option Refusal)) → one ≡ None → first_refusal rest ≡ None → first_refusal (one ∷ rest) ≡ None
  none-refuses None rest is none = none
  none-refuses (Some why) rest is none = absurd (cc is)

  without-fine : refusal publication says m number site u ≡ None → refusal publication says (with_pool pool m) number site (without_acted m.history u) ≡ None
  without-fine fine =
      let p : PublisherTables = m.world.publisher in
      let j : PublisherJudge = judge publication says m number site u in
      let without : Upload = without_acted m.history u in
      let site : Option Refusal = site_refusal publication u.site u.seq m.world.moment p in
      let gap : Option Refusal = refused_if (j.is_gap u.site.0 u.from) (Gap u.from (j.received u.site.0)) in
      let end : List (Option Refusal) = counter_end (counters p) ∷ [] in
      let sited = first-none site (gap ∷ upload_fault publication j u p ∷ too_many_new (acts_of j u [] p) p ∷ end) fine in
      let joined = first-none gap (upload_fault publication j u p ∷ too_many_new (acts_of j u [] p) p ∷ end) sited.1 in
      let ruled = first-none (upload_fault publication j u p) (too_many_new (acts_of j u [] p) p ∷ end) joined.1 in
      let counted = first-none (too_many_new (acts_of j u [] p) p) end ruled.1 in
      let fault : upload_fault publication j without p ≡ None = ap fault_of (fewer-fine publication (known_by publication j p) u acting (fault-none (broken_by_upload publication (known_by publication j p) u) ruled.0)) in
      let many : too_many_new (acts_of j without [] p) p ≡ None = ap (λ (items : List UploadItem). too_many_new (acts_from j u.site p (p.changes + 1) [] items) p) (filter-twice acting u.items) ∙ counted.0 in
      none-refuses site (gap ∷ upload_fault publication j without p ∷ too_many_new (acts_of j without [] p) p ∷ end) sited.0
      (none-refuses gap (upload_fault publication j without p ∷ too_many_new (acts_of j without [] p) p ∷ end) joined.0
      (none-refuses (upload_fault publication j without p) (too_many_new (acts_of j without [] p) p ∷ end) fault (none-refuses (too_many_new (acts_of j without [] p) p) end many counted.1)))

  -- the same but for the pool
  abbrev Alike : Option Refusal → Option Refusal → Type 0
  Alike why other = (let without : Model × Outcome = taken_by publication says (with_pool pool m) number site (without_acted m.history u) other in without.0 ≡ with_pool without.0.world.pool (taken_by publication says m number site u why).0)

  taken-alike : (why : Option Refusal) → refusal publication says m number site u ≡ why → did_something (taken_by publication says m number site u why).1 ≡ true → Alike why (refusal publication says (with_pool pool m) number site (without_acted m.history u))
  taken-alike (Some why) is did = absurd (cc did)
  taken-alike None is did = subst (λ (other : Option Refusal). Alike None other) (sym (without-fine is)) (ap by_items (filter-twice acting u.items))

pub acted-items-do-nothing : ActedItemsDoNothing
acted-items-do-nothing publication says m number site u pool at there =
    subst (λ (other : Model × Outcome). did_something (step_of_delivery publication says m number).1 ≡ true → other.0 ≡ with_pool other.0.world.pool (step_of_delivery publication says m number).0)
    (sym (delivered-by publication says (with_pool pool m) number site (without_acted m.history u) there))
    (subst (λ (done : Model × Outcome). (let other : Model × Outcome = taken_by publication says (with_pool pool m) number site (without_acted m.history u) (refusal publication says (with_pool pool m) number site (without_acted m.history u)) in
    did_something done.1 ≡ true → other.0 ≡ with_pool other.0.world.pool done.0))
    (sym (delivered-by publication says m number site u at)) (taken-alike publication says m number site u pool (refusal publication says m number site u) refl))
