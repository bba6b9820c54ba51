-- A router's table leads by the plans of its rings.
use Rattle.sb_laws.proofs.RouterTables.{answer_tables, request_tables}
use Rattle.sb_laws.proofs.router_laws.tables_lead_by_plans.Goals as goal

pub returns-clause-requests : goal.returns-clause-requests
returns-clause-requests c = λ network r d routed ids sends plans has. request_tables network r d routed ids sends plans has

pub returns-clause-answers : goal.returns-clause-answers
returns-clause-answers c = λ network r d routed ids sends plans has. answer_tables network r d routed ids sends plans has
