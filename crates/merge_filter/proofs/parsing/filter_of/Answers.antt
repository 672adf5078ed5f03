use Rattle.std.proofs.Common.{◌≡◌, ℕ, arith, List, sym, ◌∙◌, ap, subst, Err, inr}
use Rattle.merge_filter.specs.Syntax.{syntax}
use Rattle.merge_filter.specs.declared.fault.FilterFault.{FilterFault}
use Rattle.merge_filter.specs.Answers.{form_fault}
use Rattle.merge_filter.proofs.All.{found}
use Rattle.merge_filter.proofs.Known.{fits as enough}
use Rattle.merge_filter.proofs.AnswerLemmas.{IsReadingOr, name_refusal, form_refusal}
use Rattle.merge_filter.proofs.Place.{AreFew}
use Rattle.merge_filter.proofs.parsing.filter_of.Goals as goal

pub returns-in-Some-clause-answer : goal.returns-in-Some-clause-answer
returns-in-Some-clause-answer c =
    let read = rw c.deref.ensures.value at c.in-Ok.ensures in
    let is = found c.args.columns.now 32 c.args.tokens.now.words.items (syntax c.in-Ok.node) read in
    inr (name_refusal c.args.text.now c.args.columns.now c.args.tokens.now.words.items c.args.tokens.now.places.items (syntax c.in-Ok.node) c.in-Some.fault is (sym c.in-Some.ensures))

pub returns-in-None-clause-answer : goal.returns-in-None-clause-answer
returns-in-None-clause-answer c =
    let read = rw c.deref.ensures.value at c.in-Ok.ensures in
    let is = found c.args.columns.now 32 c.args.tokens.now.words.items (syntax c.in-Ok.node) read in
    inr (rw c.new.ensures (is, sym c.in-None.ensures))

pub returns-in-None-clause-fits : goal.returns-in-None-clause-fits
returns-in-None-clause-fits c =
    let read = rw c.deref.ensures.value at c.in-Ok.ensures in
    let is = found c.args.columns.now 32 c.args.tokens.now.words.items (syntax c.in-Ok.node) read in
    rw c.new.ensures (enough c.args.columns.now c.args.tokens.now.words.items c.args.tokens.now.places.items (syntax c.in-Ok.node) is (sym c.in-None.ensures))

pub returns-in-Err-clause-answer : goal.returns-in-Err-clause-answer
returns-in-Err-clause-answer c =
    let text = c.args.text.now in
    let words = c.args.tokens.now.words.items in
    let places = c.args.tokens.now.places.items in
    let read = rw c.deref.ensures.value at c.in-Err.ensures in
    let small = c.args.tokens.now.words.small in
    let ok = c.args.tokens.now.words.ok in
    let few : AreFew words = omega (arith, small, ok.0, ok.1) in
    let same : c.form_fault.result ≡ form_fault text places c.in-Err.fault = c.form_fault.ensures ∙ ap (λ (ps : List ℕ). form_fault text ps c.in-Err.fault) c.deref-in-Err.ensures.value in
    subst (λ (f : FilterFault). IsReadingOr text c.args.columns.now words places (Err f)) (sym same) (form_refusal text c.args.columns.now words places c.in-Err.fault few read)
