-- The quota is what was asked for.
use Rattle.merge_serve.proofs.serving.serve.Given as goal

abbrev pub ghosts-serve_within : goal.ghosts-serve_within
ghosts-serve_within g a = record { requests = a.requests }
