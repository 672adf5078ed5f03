-- Reports, as events.
use Rattle.std.proofs.Common.{◌≡◌, ℕ, true, false, List, Result, Ok, Err, refl, ap, sym, subst, ◌∙◌, inl, inr}
use Rattle.merge_types.specs.declared.identifiers.SiteId.{SiteId}
use Rattle.merge_types.specs.declared.row_key.RowKey.{RowKey}
use Rattle.merge_schema.specs.Places.{is_subscription}
use Rattle.merge_schema.specs.declared.publication.Publication.{Publication}
use Rattle.merge_batch.specs.declared.refusal.Refusal.{Refusal}
use Rattle.merge_batch.specs.declared.refusal.Refusal.TheVariants as refusal
use Rattle.merge_model.specs.World.Events.{answered_look, answered_show, happens, is_site, report_of_site}
use Rattle.merge_model.specs.Failing.{Faulty, Slips, faulty}
use Rattle.merge_model.specs.World.Naming.{article_by}
use Rattle.merge_model.specs.Failing.Reach.{stepping}
use Rattle.merge_model.specs.World.Reports.{partition_report, partition_rows}
use Rattle.merge_model.specs.Tables.{PublisherTables, SubscriberTables}
use Rattle.merge_model.specs.World.{Saying, World}
use Rattle.merge_model.specs.declared.answer.Answer.{Answer}
use Rattle.merge_model.specs.declared.answer.Answer.TheVariants.{Partition, Refused}
use Rattle.merge_model.specs.declared.event.Event.{Event}
use Rattle.merge_model.specs.declared.event.Event.TheVariants as event
use Rattle.merge_world.proofs.Happenings.{looks-happen, looks-want, so-answered, so-refused, unknown-site, where-if}
use Rattle.merge_world.specs.Happenings.{Happened, seconds_of}
use Rattle.merge_world.specs.Naming.{IsUnnamed}
use Rattle.merge_world.specs.Reports.{IsReport, publisher_told, subscriber_told, told_at}
use Rattle.merge_world.specs.Views.{HandedView, SitesView, world_of}
use Rattle.merge_world.specs.declared.reports.Report.{Report}
use Rattle.merge_world.specs.declared.reports.Report.TheVariants.{Conflicts, Counts, Generations, Ranges, Rows}

pub is-shown : (p q : Publication) (site : SiteId) (name : List ℕ) (article : ℕ) → p ≡ q → article_by p name ≡ Ok article → IsReport q (Rows article) site (event.Show site name)
is-shown p q site name article same named = (name, refl, subst (λ (x : Publication). article_by x name ≡ Ok article) same named)

module _ (u : SitesView) (site : SiteId) where
  abbrev asking : (says : Saying) → Report → Faulty World → Answer
  asking says report w = report_of_site u.publication (stepping u.publication says) site (λ (t : PublisherTables). publisher_told u.publication report t) (λ (t : SubscriberTables). subscriber_told u.publication report t) w

  -- an event that asks for a report
  record IsAsked (report : Report) (e : Event) : Type 0 where
    none : seconds_of e ≡ 0
    is : (says : Saying) (w : Faulty World) → happens u.publication (stepping u.publication says) w e ≡ answered_look u.publication (stepping u.publication says) (asking says report) w

  module _ (known : is_site u.publication site ≡ true) where
    by-name : (name : List ℕ) (by : Result ℕ (List ℕ)) → article_by u.publication name ≡ by → (says : Saying) (w : Faulty World)
        → happens u.publication (stepping u.publication says) w (event.Show site name) ≡ answered_show u.publication (stepping u.publication says) site w by
    by-name name by named says w = ap (where-if u.publication says site w (λ (v : Faulty World). answered_show u.publication (stepping u.publication says) site v (article_by u.publication name))) known
        ∙ ap (λ (r : Result ℕ (List ℕ)). answered_show u.publication (stepping u.publication says) site w r) named

    by-site : (report : Report) (says : Saying) (w : Faulty World) → where-if u.publication says site w (answered_look u.publication (stepping u.publication says) (asking says report)) (is_site u.publication site)
        ≡ answered_look u.publication (stepping u.publication says) (asking says report) w
    by-site report says w = ap (where-if u.publication says site w (answered_look u.publication (stepping u.publication says) (asking says report))) known

    asked : (report : Report) (e : Event) → IsReport u.publication report site e → IsAsked report e
    asked (Rows article) e (name, is, named) = subst (λ (x : Event). IsAsked (Rows article) x) (sym is) (record { none = refl; is = by-name name (Ok article) named })
    asked Conflicts e is = subst (λ (x : Event). IsAsked Conflicts x) (sym is) (record { none = refl; is = by-site Conflicts })
    asked Ranges e is = subst (λ (x : Event). IsAsked Ranges x) (sym is) (record { none = refl; is = by-site Ranges })
    asked Generations e is = subst (λ (x : Event). IsAsked Generations x) (sym is) (record { none = refl; is = by-site Generations })
    asked Counts e is = subst (λ (x : Event). IsAsked Counts x) (sym is) (record { none = refl; is = by-site Counts })

    report-told : (report : Report) (e : Event) → IsReport u.publication report site e → (h : HandedView) → Happened e u u h h (told_at u site report)
    report-told report e is h = let a = asked report e is in looks-happen e u (told_at u site report) a.none (λ says. asking says report) (λ says tallies l. refl) (λ says tallies l. a.is says (faulty (world_of u tallies) l)) h

    report-wanting : (report : Report) (e : Event) → IsReport u.publication report site e → (h : HandedView) → Happened e u u h h (Refused refusal.NoMemory)
    report-wanting report e is h = let a = asked report e is in looks-want e u (told_at u site report) a.none (λ says. asking says report) (λ says tallies l. refl) (λ says tallies l. a.is says (faulty (world_of u tallies) l)) h

    module _ (name : List ℕ) (h : HandedView) where
      show-wanting : (by : Result ℕ (List ℕ)) → article_by u.publication name ≡ by → Happened (event.Show site name) u u h h (Refused refusal.NoMemory)
      show-wanting (Ok article) named = report-wanting (Rows article) (event.Show site name) (name, refl, named) h
      show-wanting (Err wrong) named = looks-want (event.Show site name) u (Refused (refusal.UnknownName wrong)) refl (λ says w. Refused (refusal.UnknownName wrong)) (λ says tallies l. refl)
          (λ says tallies l. by-name name (Err wrong) named says (faulty (world_of u tallies) l)) h

      show-wrong : (why : Refusal) → IsUnnamed (article_by u.publication name) why → Happened (event.Show site name) u u h h (Refused why)
      show-wrong why (inl wants) = subst (λ (r : Refusal). Happened (event.Show site name) u u h h (Refused r)) (sym wants) (show-wanting (article_by u.publication name) refl)
      show-wrong why (inr (wrong, is, named)) = subst (λ (r : Refusal). Happened (event.Show site name) u u h h (Refused r)) (sym is)
          (looks-happen (event.Show site name) u (Refused (refusal.UnknownName wrong)) refl (λ says w. Refused (refusal.UnknownName wrong)) (λ says tallies l. refl)
          (λ says tallies l. by-name name (Err wrong) named says (faulty (world_of u tallies) l)) h)

  pub report-tells : (report : Report) (e : Event) (h : HandedView) (answer : Answer) → IsReport u.publication report site e → answer ≡ told_at u site report → is_site u.publication site ≡ true → Happened e u u h h answer
  report-tells report e h answer is same known = so-answered e u u h h answer (told_at u site report) same (report-told known report e is h)

  pub report-wants : (report : Report) (e : Event) (h : HandedView) → IsReport u.publication report site e → is_site u.publication site ≡ true → Happened e u u h h (Refused refusal.NoMemory)
  report-wants report e h is known = report-wanting known report e is h

  -- a name that the publication was asked for
  pub show-unnamed : (p : Publication) (name : List ℕ) (why : Refusal) (h : HandedView) → p ≡ u.publication → IsUnnamed (article_by p name) why → is_site u.publication site ≡ true → Happened (event.Show site name) u u h h (Refused why)
  show-unnamed p name why h same wrong known = show-wrong known name h why (subst (λ (q : Publication). IsUnnamed (article_by q name) why) same wrong)

  -- partitions
  abbrev partition-of : (says : Saying) → Faulty World → Answer
  partition-of says w = partition_report u.publication site ((stepping u.publication says).look w).publisher

  parted : is_subscription u.publication site.0 ≡ true → (says : Saying) (tallies : List ℕ) (l : Slips) → happens u.publication (stepping u.publication says) (faulty (world_of u tallies) l) (event.Partition site)
      ≡ answered_look u.publication (stepping u.publication says) (partition-of says) (faulty (world_of u tallies) l)
  parted is says tallies l = ap (where-if u.publication says site (faulty (world_of u tallies) l) (answered_look u.publication (stepping u.publication says) (partition-of says))) is

  pub partition-told : (rows : List RowKey) (h : HandedView) → rows ≡ partition_rows u.publication site u.publisher → is_subscription u.publication site.0 ≡ true → Happened (event.Partition site) u u h h (Partition rows)
  partition-told rows h same is = looks-happen (event.Partition site) u (Partition rows) refl partition-of (λ says tallies l. ap (λ (r : List RowKey). Partition r) (sym same)) (parted is) h

  pub partition-wants : (h : HandedView) → is_subscription u.publication site.0 ≡ true → Happened (event.Partition site) u u h h (Refused refusal.NoMemory)
  partition-wants h is = looks-want (event.Partition site) u (Partition (partition_rows u.publication site u.publisher)) refl partition-of (λ says tallies l. refl) (parted is) h

  pub partition-refused : (why : Refusal) (h : HandedView) → why ≡ refusal.UnknownSite site → is_subscription u.publication site.0 ≡ false → Happened (event.Partition site) u u h h (Refused why)
  partition-refused why h same off = so-refused (event.Partition site) u h site why same (unknown-site (event.Partition site) u site refl
      (λ says tallies l. ap (where-if u.publication says site (faulty (world_of u tallies) l) (answered_look u.publication (stepping u.publication says) (partition-of says))) off) h)

  -- no such site
  module _ (why : Refusal) (h : HandedView) (same : why ≡ refusal.UnknownSite site) (off : is_site u.publication site ≡ false) where
    nowhere : (e : Event) (report : Report) → seconds_of e ≡ 0 → ((says : Saying) (w : Faulty World) → happens u.publication (stepping u.publication says) w e
        ≡ where-if u.publication says site w (answered_look u.publication (stepping u.publication says) (asking says report)) (is_site u.publication site)) → Happened e u u h h (Refused why)
    nowhere e report none is = so-refused e u h site why same (unknown-site e u site none (λ says tallies l. is says (faulty (world_of u tallies) l)
        ∙ ap (where-if u.publication says site (faulty (world_of u tallies) l) (answered_look u.publication (stepping u.publication says) (asking says report))) off) h)

    pub show-nowhere : (name : List ℕ) → Happened (event.Show site name) u u h h (Refused why)
    show-nowhere name = so-refused (event.Show site name) u h site why same (unknown-site (event.Show site name) u site refl
        (λ says tallies l. ap (where-if u.publication says site (faulty (world_of u tallies) l) (λ (v : Faulty World). answered_show u.publication (stepping u.publication says) site v (article_by u.publication name))) off) h)

    pub conflicts-nowhere : Happened (event.Conflicts site) u u h h (Refused why)
    conflicts-nowhere = nowhere (event.Conflicts site) Conflicts refl (λ says w. refl)

    pub ranges-nowhere : Happened (event.Ranges site) u u h h (Refused why)
    ranges-nowhere = nowhere (event.Ranges site) Ranges refl (λ says w. refl)

    pub generations-nowhere : Happened (event.Generations site) u u h h (Refused why)
    generations-nowhere = nowhere (event.Generations site) Generations refl (λ says w. refl)

    pub count-nowhere : Happened (event.Count site) u u h h (Refused why)
    count-nowhere = nowhere (event.Count site) Counts refl (λ says w. refl)
