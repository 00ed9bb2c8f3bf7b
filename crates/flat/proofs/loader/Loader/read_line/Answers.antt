use Rattle.flat.proofs.loader.Loader.read_line.Goals as goal

-- there is room for a header in any loader
pub returns-in-None-Mdp-clause-admitted : goal.returns-in-None-Mdp-clause-admitted
returns-in-None-Mdp-clause-admitted c = c.read_header.ensures.admitted c.args.self.now
