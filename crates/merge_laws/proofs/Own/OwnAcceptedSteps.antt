-- Every step keeps what is said of accepted changes.
use Rattle.std.specs.Prelude.{ℕ, List, refl}
use Rattle.merge_schema.specs.declared.publication.Publication.{Publication}
use Rattle.merge_model.specs.Judge.ByHistory.{by_made, by_past}
use Rattle.merge_model.specs.History.{no_history, pasts_with}
use Rattle.merge_model.specs.Publisher.PublisherJoin.{join_taken}
use Rattle.merge_model.specs.Publisher.PublisherUpload.{taken_in}
use Rattle.merge_model.specs.Subscriber.Reinit.{result_of_reinit}
use Rattle.merge_model.specs.Subscriber.{subscriber_at_moment, subscriber_made_locally}
use Rattle.merge_model.specs.Subscriber.Taking.{tables_after_reply}
use Rattle.merge_model.specs.World.{Saying, empty_world, with_publisher, with_subscriber}
use Rattle.merge_laws.specs.Invariants.Accepting.{AcceptsWell}
use Rattle.merge_model.proofs.Lists.Finding.{found-named}
use Rattle.merge_laws.proofs.Own.OwnAccepted.{Counted, anew-accepting, join-accepting, own-accepting, purge-accepting, reply-accepting, sub-change}
use Rattle.merge_laws.proofs.Own.OwnAcceptedUploads.{upload-accepting, upload-named}
use Rattle.merge_laws.proofs.Walking.{StepsKeep, acts_in, here, uploaded_world}

pub accepting-keeps : (publication : Publication) (says : Saying) → StepsKeep publication says (Counted publication) AcceptsWell
accepting-keeps publication says = record {
  moment = λ w h now b p. p;
  own_change = λ w h change d b p fine is. own-accepting publication w h change d b p fine;
  own_closing = λ w h b p. p;
  forgetting = λ w h b p. purge-accepting publication w h (by_past h (pasts_with h 0)) b.0 p;
  same = λ w h s b p at. p;
  subscriber_change = λ w h s change d b p at named fine is. sub-change publication w h s change d.0 b p at named (subscriber_made_locally publication change d (subscriber_at_moment w.moment s)).0;
  subscriber_closing = λ w h s b p at. p;
  anew = λ w h s b p at. anew-accepting w (with_subscriber (result_of_reinit (by_made h s.site) (subscriber_at_moment w.moment s)).0 w) h s refl (found-named w.subscribers s.site.0 s b.0.none at) p;
  sends_join = λ w h s b p at joining. p;
  sends_upload = λ w h s b p at fine. p;
  sends_ranges = λ w h s b p at fine. p;
  sends_ask = λ w h s b p at fine. p;
  joins = λ w h number m b p at fine acts. join-accepting w (with_publisher (join_taken m (here w)) w) h (by_past h (pasts_with h number)) m refl p;
  joins_again = λ w h number m b p at acts. p;
  uploads = λ w h number m b p at fine news. upload-accepting publication says w h number m b p (upload-named publication w h number m b at)
      (uploaded_world publication says (by_past h (pasts_with h number)) m (taken_in publication (by_past h (pasts_with h number)) m (acts_in publication says (by_past h (pasts_with h number)) m w) (here w)) w) refl;
  uploads_again = λ w h number m b p at none. p;
  answers_ranges = λ w h site m b p. p;
  answers_ask = λ w h number site m b p at fine. p;
  replies = λ w h s number m sent b p at there out none. reply-accepting w (with_subscriber (tables_after_reply (by_made h s.site) w.moment m s) w) h s (pasts_with h number) m refl (found-named w.subscribers s.site.0 s b.0.none at) p;
}

pub accepting-begins : (publication : Publication) (tallies : List ℕ) → AcceptsWell (empty_world publication tallies) no_history
accepting-begins publication tallies = record {
  fine = tt;
  were_made = λ dot is. absurd cc;
  held = λ key there. absurd cc;
}
