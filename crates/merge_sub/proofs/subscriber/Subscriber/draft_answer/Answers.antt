use Rattle.merge_sub.proofs.Replies.{download-fit, ranged-fit, uploaded-onward}
use Rattle.merge_sub.specs.Held.{tables_of}
use Rattle.merge_sub.proofs.subscriber.Subscriber.draft_answer.Goals as goal

pub draft_received-requires-clause-onward : goal.draft_received-requires-clause-onward
draft_received-requires-clause-onward c = (uploaded-onward c.args.self.now.publication c.args.reply.now (tables_of c.args.self.now) c.requires.fits _ c.in-Uploaded.is).onward

pub draft_received-requires-clause-closed : goal.draft_received-requires-clause-closed
draft_received-requires-clause-closed c = (uploaded-onward c.args.self.now.publication c.args.reply.now (tables_of c.args.self.now) c.requires.fits _ c.in-Uploaded.is).closed

pub draft_ranged-requires-clause-fits : goal.draft_ranged-requires-clause-fits
draft_ranged-requires-clause-fits c = ranged-fit c.args.self.now.publication c.args.reply.now (tables_of c.args.self.now) c.requires.fits _ c.in-Ranged.is

pub draft_received-requires-in-Downloaded-clause-onward : goal.draft_received-requires-in-Downloaded-clause-onward
draft_received-requires-in-Downloaded-clause-onward c = (download-fit c.args.self.now.publication c.args.reply.now (tables_of c.args.self.now) c.requires.fits _ c.in-Downloaded.is).within.onward

pub draft_received-requires-in-Downloaded-clause-closed : goal.draft_received-requires-in-Downloaded-clause-closed
draft_received-requires-in-Downloaded-clause-closed c = (download-fit c.args.self.now.publication c.args.reply.now (tables_of c.args.self.now) c.requires.fits _ c.in-Downloaded.is).within.closed

pub draft_received-requires-in-Downloaded-clause-orders : goal.draft_received-requires-in-Downloaded-clause-orders
draft_received-requires-in-Downloaded-clause-orders c = rw c.as_slice.ensures (download-fit c.args.self.now.publication c.args.reply.now (tables_of c.args.self.now) c.requires.fits _ c.in-Downloaded.is).orders
