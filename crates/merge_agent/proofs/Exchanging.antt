-- How an exchange ends: each way by what its calls did.
use Rattle.std.proofs.Common.{◌≡◌, ◌∙◌, ℕ, ◌+◌, ◌<◌, ◌≤◌, List, [], ◌∷◌, refl, sym, ap, subst, arith, inl, inr}
use Rattle.std.specs.Prelude.{Bool, true, false, IfSome, Option, None, Some, Result, Ok, Err}
use Rattle.merge_types.specs.Limits.{counter_limit}
use Rattle.merge_types.specs.declared.identifiers.Moment.{Moment}
use Rattle.merge_units.specs.declared.site_row.SubscriberRow.{SubscriberRow}
use Rattle.merge_schema.specs.declared.publication.Publication.{Publication}
use Rattle.merge_batch.specs.Heads.{kind_of}
use Rattle.merge_batch.specs.declared.refusal.Refusal.{Refusal}
use Rattle.merge_batch.specs.declared.reply.Reply.{Reply}
use Rattle.merge_batch.specs.declared.request.Kind.{Kind}
use Rattle.merge_batch.specs.declared.request.Request.{Request}
use Rattle.merge_json.specs.Sendable.{IsSendableRequest}
use Rattle.merge_model.specs.World.Calls.{message_commits, message_or_none}
use Rattle.merge_model.specs.World.Steps.{Sending}
use Rattle.merge_model.specs.Tables.{SubscriberTables}
use Rattle.merge_model.proofs.Failing.Calling.{stayed}
use Rattle.merge_ports.specs.Faults.{Rose}
use Rattle.merge_world.specs.Messages.{request_of_sending}
use Rattle.merge_world.specs.Printable.{ArePrintable}
use Rattle.merge_world.specs.Views.{SubscriberCall, SubscriberView}
use Rattle.merge_link.specs.Carried.{HasLinkCause, before_response, with_exchange}
use Rattle.merge_link.specs.Moments.{Moments}
use Rattle.merge_link.specs.declared.link.Exchange.{Exchange}
use Rattle.merge_link.specs.declared.link.LinkFault.{LinkFault}
use Rattle.merge_link.specs.declared.link.LinkFault.TheVariants as link
use Rattle.merge_agent.specs.Answers.{Tells}
use Rattle.merge_agent.specs.Faults.{carrying_fault, fault_of, with_fault}
use Rattle.merge_agent.specs.Meetings.{Gives, Meeting, Passes, meeting}
use Rattle.merge_agent.specs.Texts.{IsReadable, request_text}
use Rattle.merge_agent.specs.Turns.{Broke, HasCauses, HasMessage, IsLeft, IsMade, Makes, Skips, StepEnds, Turn, Turns, Unanswered, Unmade, Untaken, taken_by}
use Rattle.merge_agent.specs.declared.answer.Told.{Told}
use Rattle.merge_agent.specs.declared.fault.SessionFault.{SessionFault}
use Rattle.merge_agent.specs.declared.fault.SessionFault.TheVariants as fault
use Rattle.merge_agent.proofs.Makings.{numbered, writable}
use Rattle.merge_agent.proofs.Passing.{gives-then, passes-over, passes-still}
use Rattle.merge_agent.proofs.Takings.{taken-rises}
use Rattle.merge_agent.proofs.Refusing.{IsTold, requested-told, taken-told}

abbrev By : Type 0
By = Result (Option (SubscriberTables × Request)) Refusal

-- What the call that makes a message did.

abbrev has_none : Result (SubscriberTables × Option Request) Refusal → Bool
has_none (Ok (t, None)) = true
has_none other = false

abbrev back : Result (SubscriberTables × Option Request) Refusal → By
back (Ok (t, Some m)) = Ok (Some (t, m))
back (Ok (t, None)) = Ok None
back (Err why) = Err why

some-made : (s t : SubscriberTables) (m : Request) (by : By) → message_or_none s by ≡ Ok (t, Some m) → by ≡ Ok (Some (t, m))
some-made s t m (Ok None) e = let none : true ≡ false = ap has_none e in absurd (cc)
some-made s t m (Ok (Some made)) e = ap back e
some-made s t m (Err why) e = absurd (cc)

abbrev Calls : Sending → Moment → SubscriberView → SubscriberView → Result (Option Request) Refusal → Type 0
Calls sending made v w r = SubscriberCall (message_or_none v.tables (request_of_sending sending made v.tables)) message_commits v w r

makes-some : (sending : Sending) (made : Moment) (v w : SubscriberView) (m : Request) → Calls sending made v w (Ok (Some m)) → Makes sending made v w (Ok (Some m))
makes-some sending made v w m called = (some-made v.tables w.tables m (request_of_sending sending made v.tables) called.0, called.1)

-- what it refused, and that its store failed only where there was a message to make

refused-as : (s : SubscriberTables) (by : By) (why : Refusal) → message_or_none s by ≡ Err why → with_fault by ≡ Err (fault_of why)
refused-as s (Ok made) why e = absurd (cc)
refused-as s (Err other) why e = cc

had-message : (sending : Sending) (made : Moment) (s t : SubscriberTables) (found : Option Request) → message_or_none s (request_of_sending sending made s) ≡ Ok (t, found) → message_commits found ≡ true → HasMessage sending made s
had-message sending made s t None e commits = absurd (cc)
had-message sending made s t (Some m) e commits = (t, m, some-made s t m (request_of_sending sending made s) e)

pub made-not : (sending : Sending) (made : Moment) (v w : SubscriberView) (why : Refusal) → Calls sending made v w (Err why) → Makes sending made v w (Err (fault_of why))
made-not sending made v w why (same, inl (refused, still)) = (same, inl (refused-as v.tables (request_of_sending sending made v.tables) why refused, still))
made-not sending made v w why (same, inr (inl (memory, still))) = (same, inr (inl (ap fault_of memory, still)))
made-not sending made v w why (same, inr (inr (store, there, rose))) = (same, inr (inr (ap fault_of store, had-message sending made v.tables there.0.0 there.0.1 there.1 there.2, rose)))

-- and what it made can be written
pub made-writable : (sending : Sending) (made : Moment) (v w : SubscriberView) (m : Option Request) → ArePrintable (λ (row : SubscriberRow). row.version) v.tables.rows → Calls sending made v w (Ok m) → IfSome m IsSendableRequest
made-writable sending made v w None printable called = tt
made-writable sending made v w (Some m) printable called = writable sending made v.tables w.tables m printable (makes-some sending made v w m called).0

-- What the steps of an exchange say, in the words of its ends.

pub made-some : (sending : Sending) (made : Moment) (v w : SubscriberView) (found : Option Request) (m : Request) → found ≡ Some m → Makes sending made v w (Ok found) → Makes sending made v w (Ok (Some m))
made-some sending made v w found m e makes = subst (λ (f : Option Request). Makes sending made v w (Ok f)) e makes

pub carried-text : (xo xn : Option (List Exchange)) (asked bytes text response : List ℕ) → xn ≡ with_exchange asked response xo → asked ≡ bytes → bytes ≡ text → xn ≡ with_exchange text response xo
carried-text xo xn asked bytes text response e is_bytes is_text = e ∙ ap (λ (t : List ℕ). with_exchange t response xo) (is_bytes ∙ is_text)

pub tells-of : (k l : Kind) (a b : List ℕ) (told : Told) → k ≡ l → a ≡ b → Tells k a told → Tells l b told
tells-of k l a b told e f tells = subst (λ (x : Kind). Tells x b told) e (subst (λ (x : List ℕ). Tells k x told) f tells)

-- Causes of what ends an exchange.

causes-told : (a b : Meeting) (why : SessionFault) → IsTold why → HasCauses a b why
causes-told a b why told = record { store = λ e. absurd (subst IsTold e told); link = λ e. absurd (subst IsTold e told) }

causes-memory : (a b : Meeting) (why : SessionFault) → why ≡ fault.NoMemory → HasCauses a b why
causes-memory a b why memory = record { store = λ e. absurd (cc); link = λ e. absurd (cc) }

causes-store : (a b : Meeting) (why : SessionFault) → why ≡ fault.StoreFault → a.faults + 1 ≤ b.faults → HasCauses a b why
causes-store a b why store rose = record { store = λ e. rose; link = λ e. absurd (cc) }

causes-link : (a b : Meeting) (why : SessionFault) → why ≡ fault.LinkFault → Rose a.links b.links → HasCauses a b why
causes-link a b why link rose = record { store = λ e. absurd (cc); link = λ e. rose }

abbrev fault_in : SessionFault → Result (Option (SubscriberTables × Request)) SessionFault → SessionFault
fault_in why (Ok m) = why
fault_in why (Err other) = other

told-by : (sending : Sending) (made : Moment) (s : SubscriberTables) (by : By) (why : SessionFault) → request_of_sending sending made s ≡ by → with_fault by ≡ Err why → IsTold why
told-by sending made s (Ok m) why e f = absurd (cc)
told-by sending made s (Err refused) why e f = subst IsTold (ap (fault_in why) f) (requested-told sending made s refused e)

module _ (address : List ℕ) (sending : Sending) (made : Moment) (v w : SubscriberView) (co : Option (List (List ℕ))) (xo : Option (List Exchange)) (lo : ℕ) (mo mn : Option Moments) (publication : w.publication ≡ v.publication) (gave : Gives mo (made ∷ []) mn) where
  -- there was no message to make
  pub skips : Makes sending made v w (Ok None) → Skips sending (meeting v co xo lo mo) (meeting w co xo lo mn)
  skips m = record { made = made; none = m.0; same = m.1; passes = passes-still v w co co xo xo lo lo mo mn (made ∷ []) publication (stayed v.faults w.faults m.2) refl refl (omega arith) gave }

  -- none was made
  pub unmade : (why : SessionFault) → Makes sending made v w (Err why) → Broke address sending (meeting v co xo lo mo) (meeting w co xo lo mn) why
  unmade why (same, inl (refused, still)) = record {
    at = Unmade made;
    breaks = (same, inl refused);
    passes = passes-still v w co co xo xo lo lo mo mn (made ∷ []) publication (stayed v.faults w.faults still) refl refl (omega arith) gave;
    causes = causes-told _ _ why (told-by sending made v.tables (request_of_sending sending made v.tables) why refl refused);
  }
  unmade why (same, inr (inl (memory, still))) = record {
    at = Unmade made;
    breaks = (same, inr (inl memory));
    passes = passes-still v w co co xo xo lo lo mo mn (made ∷ []) publication (stayed v.faults w.faults still) refl refl (omega arith) gave;
    causes = causes-memory _ _ why memory;
  }
  unmade why (same, inr (inr (store, there, rose))) = record {
    at = Unmade made;
    breaks = (same, inr (inr (store, there)));
    passes = passes-still v w co co xo xo lo lo mo mn (made ∷ []) publication (omega (arith, rose)) refl refl (omega arith) gave;
    causes = causes-store _ _ why store rose;
  }

  module _ (request : Request) (makes : Makes sending made v w (Ok (Some request))) where
    -- memory was wanting for its bytes
    pub unwritten : (why : SessionFault) → why ≡ fault.NoMemory → Broke address sending (meeting v co xo lo mo) (meeting w co xo lo mn) why
    unwritten why memory = record {
      at = Unanswered made;
      breaks = ((request, makes.0), inl memory);
      passes = passes-still v w co co xo xo lo lo mo mn (made ∷ []) publication (stayed v.faults w.faults makes.1) refl refl (omega arith) gave;
      causes = causes-memory _ _ why memory;
    }

    -- the link failed
    pub uncarried : (cn : Option (List (List ℕ))) (xn : Option (List Exchange)) (ln : ℕ) (why : LinkFault) → cn ≡ co → xn ≡ xo → HasLinkCause {T = List ℕ} lo ln (Err why) → Broke address sending (meeting v co xo lo mo) (meeting w cn xn ln mn) (carrying_fault why)
    uncarried cn xn ln link.Failed coming exchanges cause = record {
      at = Unanswered made;
      breaks = ((request, makes.0), inr refl);
      passes = passes-still v w co cn xo xn lo ln mo mn (made ∷ []) publication (stayed v.faults w.faults makes.1) coming exchanges cause.later gave;
      causes = causes-link _ _ fault.LinkFault refl (cause.failed refl);
    }
    uncarried cn xn ln link.NoMemory coming exchanges cause = record {
      at = Unanswered made;
      breaks = ((request, makes.0), inl refl);
      passes = passes-still v w co cn xo xn lo ln mo mn (made ∷ []) publication (stayed v.faults w.faults makes.1) coming exchanges cause.later gave;
      causes = causes-memory _ _ fault.NoMemory refl;
    }

    module _ (response : List ℕ) (cn : Option (List (List ℕ))) (xn : Option (List Exchange)) (ln : ℕ) (now : Moment) (ml : Option Moments)
        (coming : co ≡ before_response response cn) (exchanges : xn ≡ with_exchange (request_text address request) response xo) (links : lo ≤ ln) (came : Gives mn (now ∷ []) ml) (readable : IsReadable request) where
      abbrev turn : Turn
      turn = record { carried = record { request = request_text address request; response = response }; now = now }

      over : (u : SubscriberView) → u.publication ≡ w.publication → w.faults ≤ u.faults → Passes (turn.carried ∷ []) (made ∷ now ∷ []) (meeting v co xo lo mo) (meeting u cn xn ln ml)
      over u same later = passes-over v u co cn xo xn lo ln mo ml (made ∷ now ∷ []) (request_text address request) response (same ∙ publication) (omega (arith, makes.1, later)) coming exchanges links (gives-then mo (made ∷ []) mn (now ∷ []) ml gave came)

      -- memory was wanting for what the response tells
      pub unread : (why : SessionFault) → why ≡ fault.NoMemory → Broke address sending (meeting v co xo lo mo) (meeting w cn xn ln ml) why
      unread why memory = record {
        at = Untaken made turn;
        breaks = record { request = request; is_made = makes.0; text = refl; readable = readable; by = inl memory };
        passes = over w refl (omega arith);
        causes = causes-memory _ _ why memory;
      }

      module _ (told : Told) (tells : Tells (kind_of request) response told) (u : SubscriberView) (same : u.publication ≡ w.publication) where
        is_made : u.tables ≡ w.tables → IsMade sending made v.tables u.tables request
        is_made e = subst (λ (t : SubscriberTables). IsMade sending made v.tables t request) (sym e) makes.0

        left : u.tables ≡ w.tables → (why : SessionFault) → IsLeft (taken_by w.publication now told w.tables) why → IsLeft (taken_by v.publication now told u.tables) why
        left e why is = subst (λ (p : Publication). IsLeft (taken_by p now told u.tables) why) publication (subst (λ (t : SubscriberTables). IsLeft (taken_by w.publication now told t) why) (sym e) is)

        -- what it tells was not taken
        pub untaken : (why : SessionFault) → StepEnds {A = Reply} (taken_by w.publication now told w.tables) w.tables u.tables w.faults u.faults (Err why) → Broke address sending (meeting v co xo lo mo) (meeting u cn xn ln ml) why
        untaken why (kept, inl (refused, still)) = record {
          at = Untaken made turn;
          breaks = record { request = request; is_made = is_made kept; text = refl; readable = readable; by = inr (told, tells, left kept why (inl refused)) };
          passes = over u same (stayed w.faults u.faults still);
          causes = causes-told _ _ why (taken-told w.publication now told w.tables why refused);
        }
        untaken why (kept, inr (inl (memory, still))) = record {
          at = Untaken made turn;
          breaks = record { request = request; is_made = is_made kept; text = refl; readable = readable; by = inl memory };
          passes = over u same (stayed w.faults u.faults still);
          causes = causes-memory _ _ why memory;
        }
        untaken why (kept, inr (inr (store, done, rose))) = record {
          at = Untaken made turn;
          breaks = record { request = request; is_made = is_made kept; text = refl; readable = readable; by = inr (told, tells, left kept why (inr (store, done))) };
          passes = over u same (omega (arith, rose));
          causes = causes-store _ _ why store (omega (arith, rose, makes.1));
        }

        -- it was taken
        pub turns : (m : Reply) → StepEnds (taken_by w.publication now told w.tables) w.tables u.tables w.faults u.faults (Ok m) → Turns address sending (meeting v co xo lo mo) (meeting u cn xn ln ml) m
        turns m stepped = record {
          made = made;
          turn = turn;
          takes = record {
            sent = w.tables;
            told = told;
            meets = record { request = request; is_made = makes.0; text = refl; readable = readable; tells = tells };
            taken = subst (λ (p : Publication). taken_by p now told w.tables ≡ Ok (u.tables, m)) publication stepped.0;
          };
          passes = over u same (stayed w.faults u.faults stepped.1);
        }

        pub advances : (m : Reply) → StepEnds (taken_by w.publication now told w.tables) w.tables u.tables w.faults u.faults (Ok m) → (v.tables.seq < counter_limit) × (v.tables.seq + 1 ≤ u.tables.seq)
        advances m stepped = let number = numbered sending made v.tables w.tables request makes.0 in let rises = taken-rises w.publication now told w.tables u.tables m stepped.0 in (number.0, omega (arith, number.1, rises))
