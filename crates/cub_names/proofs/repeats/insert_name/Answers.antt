use Rattle.cub_names.proofs.repeats.insert_name.Goals as goal

-- the set's own clause, at the key with these bytes
pub returns-clause-after : goal.returns-clause-after
returns-clause-after c = λ q. c.in_ok-insert.ensures.updates.0 (record c.args.name { now = q })
