use Rattle.gateway_workers.proofs.serving.serve_links.Given as goal

abbrev pub ghosts-serve_all-X-Ledger : goal.ghosts-serve_all-X-Ledger
ghosts-serve_all-X-Ledger g a = record { name = a.blanks.0.name; parts = a.blanks.0.parts }

abbrev pub ghosts-serve_all-Y-Ledger : goal.ghosts-serve_all-Y-Ledger
ghosts-serve_all-Y-Ledger g a = record { name = a.blanks.1.name; parts = a.blanks.1.parts }
