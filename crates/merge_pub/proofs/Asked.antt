-- A call by its parts: the first refusal, or the step.
use Rattle.std.specs.Prelude.{◌≡◌, ◌<◌, ◌≤◌, ℕ, Bool, true, false, List, cond, nat_lt, Option, Some, None, Result, Ok, Err, option_map, unwrap_or}
use Rattle.std.proofs.Common.{arith, sym, ap, ◌∙◌, subst}
use Rattle.std.proofs.lemmas.Bool.Decides.{nat_tests}
use Rattle.merge_types.specs.declared.identifiers.Moment.{Moment}
use Rattle.merge_gens.specs.declared.sites.SiteState.{SiteState}
use Rattle.merge_schema.specs.declared.publication.Publication.{Publication}
use Rattle.merge_batch.specs.declared.refusal.Refusal.{Refusal}
use Rattle.merge_batch.specs.declared.reply.Downloaded.{Downloaded}
use Rattle.merge_batch.specs.declared.reply.Joined.{Joined}
use Rattle.merge_batch.specs.declared.reply.Ranged.{Ranged}
use Rattle.merge_batch.specs.declared.request.Download.{Download}
use Rattle.merge_batch.specs.declared.request.Join.{Join}
use Rattle.merge_batch.specs.declared.request.RangeAsk.{RangeAsk}
use Rattle.merge_model.specs.Judge.ByNumbers.{by_numbers}
use Rattle.merge_model.specs.Tables.Keys.{at_number}
use Rattle.merge_model.specs.Publisher.{at_moment, later, no_state, state_of, tables_after_close, with_state}
use Rattle.merge_ident.specs.declared.grants.GrantPlan.{GrantPlan}
use Rattle.merge_model.specs.Publisher.PublisherJoin.{join, join_acts, join_refusal, join_taken, joined_state, tables_after_join, without_left}
use Rattle.merge_model.specs.Publisher.PublisherRanges.{plans, ranges, ranges_refusal, reply_to_ranges, with_grants}
use Rattle.merge_model.specs.Publisher.PublisherDownload.{download, download_refusal, reply_to, state_after_download, tables_after_download}
use Rattle.merge_model.specs.Tables.Refusals.{unless}
use Rattle.merge_model.specs.Tables.{PublisherTables}

-- where nothing refuses a call, it is made
pub made-unless : {A : Type 0} (refusal : Option Refusal) (done : A) → None ≡ refusal → unless refusal done ≡ Ok done
made-unless refusal done none = ap (λ (r : Option Refusal). unless r done) (sym none)

-- and else it is refused for that
pub refused-unless : {A : Type 0} (refusal : Option Refusal) (done : A) (why : Refusal) → Some why ≡ refusal → unless refusal done ≡ Err why
refused-unless refusal done why some = ap (λ (r : Option Refusal). unless r done) (sym some)

pub received-is : (p : PublisherTables) (site : ℕ) (state : SiteState) → at_number p.sites site ≡ Some state → state.received ≡ (by_numbers p).received site
received-is p site state found = sym (ap (λ (o : Option SiteState). unwrap_or (option_map (λ (s : SiteState). s.received) o) 0) found)

pub downloaded : (publication : Publication) (now : Moment) (m : Download) (p p' : PublisherTables) (state new : SiteState) (latest : Moment) (reply : Downloaded)
    → None ≡ download_refusal publication now m p → at_number p.sites m.site.0 ≡ Some state → latest ≡ later now p.latest → new ≡ state_after_download m (record p { latest = latest }) state
    → p' ≡ tables_after_close (with_state m.site new (record p { latest = latest })) → (state.received ≡ (by_numbers p).received m.site.0 → reply ≡ reply_to publication (by_numbers p) m (tables_after_close p))
    → download publication (by_numbers p) now m p ≡ Ok (p', reply)
downloaded publication now m p p' state new latest reply none found moment same is told =
    made-unless (download_refusal publication now m p) (tables_after_download m (at_moment now p), reply_to publication (by_numbers p) m (tables_after_download m (at_moment now p))) none
    ∙ ap (λ (o : Option SiteState). (let done : Result (PublisherTables × Downloaded) Refusal = Ok (tables_after_close (with_state m.site (state_after_download m (at_moment now p) (unwrap_or o no_state)) (at_moment now p)), reply_to publication (by_numbers p) m (tables_after_close p)) in done)) found
    ∙ ap (λ (l : Moment). (let done : Result (PublisherTables × Downloaded) Refusal = Ok (tables_after_close (with_state m.site (state_after_download m (record p { latest = l }) state) (record p { latest = l })), reply_to publication (by_numbers p) m (tables_after_close p)) in done)) (sym moment)
    ∙ ap (λ (s : SiteState). (let done : Result (PublisherTables × Downloaded) Refusal = Ok (tables_after_close (with_state m.site s (record p { latest = latest })), reply_to publication (by_numbers p) m (tables_after_close p)) in done)) (sym same)
    ∙ ap (λ (q : PublisherTables). (let done : Result (PublisherTables × Downloaded) Refusal = Ok (q, reply_to publication (by_numbers p) m (tables_after_close p)) in done)) (sym is)
    ∙ ap (λ (r : Downloaded). (let done : Result (PublisherTables × Downloaded) Refusal = Ok (p', r) in done)) (sym (told (received-is p m.site.0 state found)))

pub download-refused : (publication : Publication) (now : Moment) (m : Download) (p : PublisherTables) (why : Refusal) → Some why ≡ download_refusal publication now m p → download publication (by_numbers p) now m p ≡ Err why
download-refused publication now m p why some =
    refused-unless (download_refusal publication now m p) (tables_after_download m (at_moment now p), reply_to publication (by_numbers p) m (tables_after_download m (at_moment now p))) why some

-- A join.

pub join-refused : (publication : Publication) (now : Moment) (m : Join) (p : PublisherTables) (why : Refusal) → Some why ≡ join_refusal publication m p → join publication now m p ≡ Err why
join-refused publication now m p why some = refused-unless (join_refusal publication m p) (tables_after_join m (at_moment now p), record { seq = m.seq }) why some

acts-not : (a b : ℕ) → b ≤ a → nat_lt a b ≡ false
acts-not a b order = grind (arith, nat_tests, order)

acts : (a b : ℕ) → a < b → nat_lt a b ≡ true
acts a b order = grind (arith, nat_tests, order)

-- one that was made before the last one that acted, or is that one
pub joined-still : (publication : Publication) (now : Moment) (m : Join) (p p' : PublisherTables) (state : SiteState) (latest : Moment) → None ≡ join_refusal publication m p → state ≡ state_of p m.site → m.seq ≤ state.joined_at
    → latest ≡ later now p.latest → p' ≡ record p { latest = latest } → join publication now m p ≡ Ok (p', record { seq = m.seq })
joined-still publication now m p p' state latest none is order moment same =
    let not_later : join_acts m p ≡ false = acts-not (state_of p m.site).joined_at m.seq (subst (λ (s : SiteState). m.seq ≤ s.joined_at) is order) in
    made-unless (join_refusal publication m p) (tables_after_join m (at_moment now p), record { seq = m.seq }) none
    ∙ ap (λ (b : Bool). (let done : Result (PublisherTables × Joined) Refusal = Ok (cond b (join_taken m (at_moment now p)) (at_moment now p), record { seq = m.seq }) in done)) not_later
    ∙ ap (λ (l : Moment). (let done : Result (PublisherTables × Joined) Refusal = Ok (record p { latest = l }, record { seq = m.seq }) in done)) (sym moment)
    ∙ ap (λ (q : PublisherTables). (let done : Result (PublisherTables × Joined) Refusal = Ok (q, record { seq = m.seq }) in done)) (sym same)

pub joined-acts : (publication : Publication) (now : Moment) (m : Join) (p p' : PublisherTables) (state new : SiteState) (latest : Moment) → None ≡ join_refusal publication m p → state ≡ state_of p m.site → state.joined_at < m.seq
    → latest ≡ later now p.latest → new ≡ joined_state m latest state → p' ≡ without_left m.site (with_state m.site new (record p { latest = latest })) → join publication now m p ≡ Ok (p', record { seq = m.seq })
joined-acts publication now m p p' state new latest none is order moment made same =
    let is_later : join_acts m p ≡ true = acts (state_of p m.site).joined_at m.seq (subst (λ (s : SiteState). s.joined_at < m.seq) is order) in
    made-unless (join_refusal publication m p) (tables_after_join m (at_moment now p), record { seq = m.seq }) none
    ∙ ap (λ (b : Bool). (let done : Result (PublisherTables × Joined) Refusal = Ok (cond b (join_taken m (at_moment now p)) (at_moment now p), record { seq = m.seq }) in done)) is_later
    ∙ ap (λ (l : Moment). (let done : Result (PublisherTables × Joined) Refusal = Ok (without_left m.site (with_state m.site (joined_state m l (state_of p m.site)) (record p { latest = l })), record { seq = m.seq }) in done)) (sym moment)
    ∙ ap (λ (s : SiteState). (let done : Result (PublisherTables × Joined) Refusal = Ok (without_left m.site (with_state m.site s (record p { latest = latest })), record { seq = m.seq }) in done)) (ap (joined_state m latest) (sym is) ∙ sym made)
    ∙ ap (λ (q : PublisherTables). (let done : Result (PublisherTables × Joined) Refusal = Ok (q, record { seq = m.seq }) in done)) (sym same)

-- a join behind the last one that did acts
pub acts-behind : (m : Join) (p : PublisherTables) (state : SiteState) → state ≡ state_of p m.site → state.joined_at < m.seq → join_acts m p ≡ false → ⊥
acts-behind m p state is order still =
    let does : join_acts m p ≡ true = acts (state_of p m.site).joined_at m.seq (subst (λ (s : SiteState). s.joined_at < m.seq) is order) in
    let no : true ≡ false = sym does ∙ still in
    cc

-- A request for ranges.

pub ranges-refused : (publication : Publication) (now : Moment) (m : RangeAsk) (p : PublisherTables) (why : Refusal) → Some why ≡ ranges_refusal publication (by_numbers p) now m p → ranges publication (by_numbers p) now m p ≡ Err why
ranges-refused publication now m p why some = refused-unless (ranges_refusal publication (by_numbers p) now m p) (with_grants (plans publication m p) (at_moment now p), reply_to_ranges m (plans publication m p)) why some

pub ranges-made : (publication : Publication) (now : Moment) (m : RangeAsk) (p p' : PublisherTables) (planned : List GrantPlan) (latest : Moment) (told : Ranged) → None ≡ ranges_refusal publication (by_numbers p) now m p
    → latest ≡ later now p.latest → planned ≡ plans publication m p → told ≡ reply_to_ranges m planned → p' ≡ with_grants planned (record p { latest = latest }) → ranges publication (by_numbers p) now m p ≡ Ok (p', told)
ranges-made publication now m p p' planned latest told none moment are tells same =
    made-unless (ranges_refusal publication (by_numbers p) now m p) (with_grants (plans publication m p) (at_moment now p), reply_to_ranges m (plans publication m p)) none
    ∙ ap (λ (l : Moment). (let done : Result (PublisherTables × Ranged) Refusal = Ok (with_grants (plans publication m p) (record p { latest = l }), reply_to_ranges m (plans publication m p)) in done)) (sym moment)
    ∙ ap (λ (ps : List GrantPlan). (let done : Result (PublisherTables × Ranged) Refusal = Ok (with_grants ps (record p { latest = latest }), reply_to_ranges m ps) in done)) (sym are)
    ∙ ap (λ (r : Ranged). (let done : Result (PublisherTables × Ranged) Refusal = Ok (with_grants planned (record p { latest = latest }), r) in done)) (sym tells)
    ∙ ap (λ (q : PublisherTables). (let done : Result (PublisherTables × Ranged) Refusal = Ok (q, told) in done)) (sym same)
